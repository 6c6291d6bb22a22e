use Rattle.std.proofs.Common.{◌≡◌, ◌<◌, pos, List, length, get_or, Some, None, sym, ap, ◌∙◌}
use Rattle.std.proofs.lemmas.List.{get_or_default}
use Rattle.std.specs.FinMap as map
use Rattle.std.specs.Prelude.{if◌then◌else◌, ◌==◌}
use Rattle.std.specs.Str.{bytes_eq}
use Rattle.mon_pdu.specs.declared.message.PduKind.{PduKind}
use Rattle.mon_pdu.specs.declared.message.PduKind.TheVariants.{Response}
use Rattle.mon_pdu.specs.Kinds.{octet_of}
use Rattle.mon_pdu.specs.declared.message.Binding.{Binding}
use Rattle.mon_pdu.specs.Framed.{framed}
use Rattle.mon_poller.specs.declared.target.Target.{Target}
use Rattle.mon_poller.specs.InPlace.{framed_pdu}
use Rattle.mon_poller.specs.Poller.{open_of, poll_in}
use Rattle.mon_poller.specs.Target.{no_target, target_at}
use Rattle.mon_poller.specs.Verdict.{response_pdu}
use Rattle.mon_udp.specs.Addr.{same_addr}
use Rattle.mon_poller.proofs.Responds.{poll_found}
use Rattle.mon_poller.proofs.Slots.{in_slot}
use Rattle.mon_poller.proofs.Steps.{was_true}
use Rattle.mon_poller.proofs.in_place.framed_poll.Goals as goal

-- the frame is of a Response
is_response : (c : goal.Else-ne-2) (bindings : List Binding) → response_pdu (framed c.args.frame.now bindings).body ≡ Some (framed_pdu c.args.frame.now bindings)
is_response c bindings = ap (λ (k : PduKind). if octet_of k == octet_of Response then Some (framed_pdu c.args.frame.now bindings) else None) c.in_ok-id.ensures.kind

pub returns-clause-slot : goal.returns-clause-slot
returns-clause-slot c = c.in_ok-key.ensures.found

pub returns-clause-target : goal.returns-clause-target
returns-clause-target c = c.requires.there c.in_ok-key.key c.in_ok-key.poll c.in_ok-key.ensures.found

pub returns-clause-id : goal.returns-clause-id
returns-clause-id c = c.in_ok-id.ensures.id ∙ ap (λ n. pos n) (sym c.in_ok-key.ensures.same)

pub returns-clause-response : goal.returns-clause-response
returns-clause-response c = is_response c

pub returns-clause-awaited : goal.returns-clause-awaited
returns-clause-awaited c = λ bindings.
    let slots = c.args.polls.now.slots in
    let poll = c.in_ok-key.poll in
    let found : map.get (open_of slots) c.in_ok-id.id ≡ Some (poll_in poll) = ap (map.get (open_of slots)) (sym c.in_ok-key.ensures.same) ∙ in_slot slots c.in_ok-key.key poll c.requires.distinct c.in_ok-key.ensures.found in
    let there : poll.target < length c.args.targets.now = c.requires.there c.in_ok-key.key poll c.in_ok-key.ensures.found in
    let at : c.index-targets-from.result ≡ target_at c.args.targets.now poll.target =
    c.index-targets-from.is ∙ ap (λ n. get_or c.args.targets.now n c.index-targets-from.result) c.from.ensures ∙ get_or_default c.args.targets.now poll.target c.index-targets-from.result no_target there in
    poll_found c.args.targets.now (open_of slots) c.args.from (framed c.args.frame.now bindings) (framed_pdu c.args.frame.now bindings) (is_response c bindings) c.in_ok-id.id c.in_ok-id.ensures.id (poll_in poll) found
    (ap (λ (t : Target). same_addr c.args.from t.address) (sym at) ∙ was_true _ (sym c.ne.ensures ∙ c.if-ne.false))
    (ap (λ (t : Target). bytes_eq c.args.frame.now.community.now t.community) (sym at) ∙ ap (λ o. bytes_eq c.args.frame.now.community.now o) (sym c.as_slice.ensures) ∙ was_true _ (sym c.ne-else-ne.ensures ∙ c.if-ne-2.false))
