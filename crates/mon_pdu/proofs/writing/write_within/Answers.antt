use Rattle.mon_pdu.proofs.Spelled.{message_spelled}
use Rattle.mon_pdu.proofs.writing.write_within.Goals as goal

pub returns-clause-spelled : goal.returns-clause-spelled
returns-clause-spelled c = message_spelled c.args.message.now c.lengths_of.ensures.valid c.requires.fits
