use Rattle.std.proofs.Common.{[], rules}
use Rattle.mon_pdu.specs.Framed.{framed}
use Rattle.mon_pdu.proofs.framing.lengths_of.Goals as goal

pub returns-clause-body : goal.returns-clause-body
returns-clause-body c = λ octets is. c.lengths_from.ensures.body (framed c.args.frame.now []) octets c.numbers_len.ensures.value is

pub returns-clause-message : goal.returns-clause-message
returns-clause-message c = λ octets is. c.lengths_from.ensures.message (framed c.args.frame.now []) octets (search rules) c.numbers_len.ensures.value is
