use Rattle.std.proofs.Common.{ap, length}
use Rattle.mon_pdu.proofs.writing.lengths_around.Goals as goal

pub returns-clause-body : goal.returns-clause-body
returns-clause-body c = λ octets is. c.lengths_from.ensures.body c.args.message.now octets c.numbers_len-numbers.ensures.value is

pub returns-clause-message : goal.returns-clause-message
returns-clause-message c = λ octets is.
    c.lengths_from.ensures.message c.args.message.now octets (ap length c.as_slice.ensures) c.numbers_len-numbers.ensures.value is
