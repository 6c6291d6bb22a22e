use Rattle.std.proofs.Common.{[]}
use Rattle.mon_pdu.specs.Framed.{framed}
use Rattle.mon_pdu.proofs.Around.{inside_fits}
use Rattle.mon_pdu.proofs.framing.put_frame.Goals as goal

pub put_octets-requires-clause-fits : goal.put_octets-requires-clause-fits
put_octets-requires-clause-fits c = (inside_fits (framed c.args.frame.now []) c.args.frame.now.list.now c.requires.fits).1

pub put_pdu-requires-clause-fits : goal.put_pdu-requires-clause-fits
put_pdu-requires-clause-fits c = (inside_fits (framed c.args.frame.now []) c.args.frame.now.list.now c.requires.fits).0
