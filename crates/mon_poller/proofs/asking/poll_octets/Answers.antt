use Rattle.std.proofs.Common.{◌≡◌, ◌<◌, ◌^◌, ◌⊎◌, ◌≤◌, ◌∙◌, List, length, map, subst, arith}
use Rattle.mon_pdu.specs.declared.message.Binding.{Binding}
use Rattle.mon_pdu.specs.declared.message.Message.{Message}
use Rattle.mon_pdu.specs.declared.fault.PduFault.TheVariants.{OutOfMemory, BadLength}
use Rattle.mon_pdu.specs.Sizes.{with_bindings}
use Rattle.mon_pdu.specs.Writing.{message_contents, written_message}
use Rattle.mon_poller.specs.Target.{poll_message, poll_names, unspecified}
use Rattle.mon_poller.proofs.Short.{poll_few}
use Rattle.mon_poller.proofs.asking.poll_octets.Goals as goal

pub returns-in-Ok : goal.returns-in-Ok
returns-in-Ok c =
    let asked : List Binding = map unspecified (poll_names c.args.target.now) in
    c.new.ensures
    ∙ subst (λ (m : Message). c.in-Ok.octets.items ≡ written_message (with_bindings m asked)) c.in_ok-message.ensures
    (c.in-Ok.ensures.ok asked c.requires.list.asked).1

pub unreachable-requires : goal.unreachable-requires
unreachable-requires c =
    let asked : List Binding = map unspecified (poll_names c.args.target.now) in
    let why : (c.in-Err.field-0 ≡ OutOfMemory) ⊎ ((c.in-Err.field-0 ≡ BadLength) × (2 ^ 32 ≤ length (message_contents (poll_message c.args.target.now c.args.id)))) =
    subst (λ (m : Message). (c.in-Err.field-0 ≡ OutOfMemory) ⊎ ((c.in-Err.field-0 ≡ BadLength) × (2 ^ 32 ≤ length (message_contents (with_bindings m asked))))) c.in_ok-message.ensures
    (c.in-Err.ensures.err asked c.requires.list.asked) in
    let few : length (message_contents (poll_message c.args.target.now c.args.id)) < 2 ^ 32 = poll_few c.args.target.now c.args.id c.requires.target c.requires.list in
    grind (arith, why, few)
