use Rattle.std.proofs.Common.{◌≡◌, ◌<◌, pos, length, get_or, Some, sym, ap, ◌∙◌, rules}
use Rattle.std.specs.FinMap as map
use Rattle.std.specs.Option.{option_copied}
use Rattle.std.specs.Str.{bytes_eq}
use Rattle.std.proofs.lemmas.List.{get_or_default}
use Rattle.mon_poller.specs.declared.target.Target.{Target}
use Rattle.mon_poller.specs.Poller.{open_of, poll_in}
use Rattle.mon_poller.specs.Target.{no_target, target_at}
use Rattle.mon_poller.specs.Verdict.{response_pdu}
use Rattle.mon_udp.specs.Addr.{same_addr}
use Rattle.mon_poller.proofs.Slots.{in_none, in_slot}
use Rattle.mon_poller.proofs.Steps.{was_true, was_false}
use Rattle.mon_poller.proofs.Responds.{no_poll, other_source, other_community, poll_found}
use Rattle.mon_poller.proofs.awaiting.find_awaited.Goals as goal

pub returns-in_default-find-clause-verdict : goal.returns-in_default-find-clause-verdict
returns-in_default-find-clause-verdict c =
    let slots = c.args.polls.now.slots in
    let is : response_pdu c.args.message.now.body ≡ Some c.in-Some.pdu.now = sym c.response_pdu.ensures ∙ ap option_copied c.in-Some.is in
    let named : c.in-Some.pdu.now.request_id ≡ pos c.in-Ok.id = search rules in
    no_poll c.args.targets.now (open_of slots) c.args.from c.args.message.now c.in-Some.pdu.now is c.in-Ok.id named (in_none slots c.in-Ok.id c.in_default-find.ensures.absent)

pub returns-then-ne-clause-verdict : goal.returns-then-ne-clause-verdict
returns-then-ne-clause-verdict c =
    let slots = c.args.polls.now.slots in
    let poll = c.in-Some-find.poll in
    let is : response_pdu c.args.message.now.body ≡ Some c.in-Some.pdu.now = sym c.response_pdu.ensures ∙ ap option_copied c.in-Some.is in
    let named : c.in-Some.pdu.now.request_id ≡ pos c.in-Ok.id = search rules in
    let found : map.get (open_of slots) c.in-Ok.id ≡ Some (poll_in poll) = ap (map.get (open_of slots)) (sym c.in-Some-find.ensures.same) ∙ in_slot slots c.in-Some-find.key poll c.requires.distinct c.in-Some-find.ensures.found in
    let there : poll.target < length c.args.targets.now = c.requires.there c.in-Some-find.key poll c.in-Some-find.ensures.found in
    let at : c.index-targets-from.result ≡ target_at c.args.targets.now poll.target =
    c.index-targets-from.is ∙ ap (λ n. get_or c.args.targets.now n c.index-targets-from.result) c.from.ensures ∙ get_or_default c.args.targets.now poll.target c.index-targets-from.result no_target there in
    other_source c.args.targets.now (open_of slots) c.args.from c.args.message.now c.in-Some.pdu.now is c.in-Ok.id named (poll_in poll) found
    (ap (λ (t : Target). same_addr c.args.from t.address) (sym at) ∙ was_false _ (sym c.ne.ensures ∙ c.if-ne.true))

pub returns-then-ne-2-clause-verdict : goal.returns-then-ne-2-clause-verdict
returns-then-ne-2-clause-verdict c =
    let slots = c.args.polls.now.slots in
    let poll = c.in-Some-find.poll in
    let is : response_pdu c.args.message.now.body ≡ Some c.in-Some.pdu.now = sym c.response_pdu.ensures ∙ ap option_copied c.in-Some.is in
    let named : c.in-Some.pdu.now.request_id ≡ pos c.in-Ok.id = search rules in
    let found : map.get (open_of slots) c.in-Ok.id ≡ Some (poll_in poll) = ap (map.get (open_of slots)) (sym c.in-Some-find.ensures.same) ∙ in_slot slots c.in-Some-find.key poll c.requires.distinct c.in-Some-find.ensures.found in
    let there : poll.target < length c.args.targets.now = c.requires.there c.in-Some-find.key poll c.in-Some-find.ensures.found in
    let at : c.index-targets-from.result ≡ target_at c.args.targets.now poll.target =
    c.index-targets-from.is ∙ ap (λ n. get_or c.args.targets.now n c.index-targets-from.result) c.from.ensures ∙ get_or_default c.args.targets.now poll.target c.index-targets-from.result no_target there in
    other_community c.args.targets.now (open_of slots) c.args.from c.args.message.now c.in-Some.pdu.now is c.in-Ok.id named (poll_in poll) found
    (ap (λ (t : Target). same_addr c.args.from t.address) (sym at) ∙ was_true _ (sym c.ne.ensures ∙ c.if-ne.false))
    ((λ j. bytes_eq (sym c.as_slice.ensures j) (sym at j).community) ∙ ap (λ o. bytes_eq c.as_slice.result.now o) (sym c.as_slice-2.ensures) ∙ was_false _ (sym c.ne-2.ensures ∙ c.if-ne-2.true))

pub returns-clause-verdict : goal.returns-clause-verdict
returns-clause-verdict c =
    let slots = c.args.polls.now.slots in
    let poll = c.in-Some-find.poll in
    let is : response_pdu c.args.message.now.body ≡ Some c.in-Some.pdu.now = sym c.response_pdu.ensures ∙ ap option_copied c.in-Some.is in
    let named : c.in-Some.pdu.now.request_id ≡ pos c.in-Ok.id = search rules in
    let found : map.get (open_of slots) c.in-Ok.id ≡ Some (poll_in poll) = ap (map.get (open_of slots)) (sym c.in-Some-find.ensures.same) ∙ in_slot slots c.in-Some-find.key poll c.requires.distinct c.in-Some-find.ensures.found in
    let there : poll.target < length c.args.targets.now = c.requires.there c.in-Some-find.key poll c.in-Some-find.ensures.found in
    let at : c.index-targets-from.result ≡ target_at c.args.targets.now poll.target =
    c.index-targets-from.is ∙ ap (λ n. get_or c.args.targets.now n c.index-targets-from.result) c.from.ensures ∙ get_or_default c.args.targets.now poll.target c.index-targets-from.result no_target there in
    poll_found c.args.targets.now (open_of slots) c.args.from c.args.message.now c.in-Some.pdu.now is c.in-Ok.id named (poll_in poll) found
    (ap (λ (t : Target). same_addr c.args.from t.address) (sym at) ∙ was_true _ (sym c.ne.ensures ∙ c.if-ne.false))
    ((λ j. bytes_eq (sym c.as_slice.ensures j) (sym at j).community) ∙ ap (λ o. bytes_eq c.as_slice.result.now o) (sym c.as_slice-2.ensures) ∙ was_true _ (sym c.ne-2.ensures ∙ c.if-ne-2.false))
