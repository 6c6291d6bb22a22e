use Rattle.std.proofs.Common.{◌≡◌, rules, subst, sym}
use Rattle.mon_pdu.specs.Grammar.{IsMessage}
use Rattle.mon_pdu.specs.Writing.{HasLength, written_message}
use Rattle.mon_pdu.proofs.Spelled.{message_spelled}
use Rattle.mon_pdu.proofs.writing.write_message.Goals as goal

pub returns-clause-spelled : goal.returns-clause-spelled
returns-clause-spelled c =
    let fits : HasLength c.args.message.now = search rules in
    let is : c.put_whole.new.out.items ≡ written_message c.args.message.now = search rules in
    subst (λ text. IsMessage text c.args.message.now) (sym is) (message_spelled c.args.message.now c.lengths_of-lengths.ensures.valid fits)
