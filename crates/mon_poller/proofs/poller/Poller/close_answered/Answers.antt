use Rattle.std.proofs.Common.{◌≡◌, List, Some, sym, ap, subst, ◌∙◌}
use Rattle.std.proofs.lemmas.Result.{err_from_is_err_and}
use Rattle.mon_poller.specs.declared.target.Target.{Target}
use Rattle.mon_poller.specs.Gives.{Gives, Fails}
use Rattle.mon_poller.specs.Poller.{Poller, open_of, poll_in}
use Rattle.mon_poller.specs.Polls.{Polls, closed}
use Rattle.mon_poller.specs.Target.{target_at}
use Rattle.mon_poller.specs.Verdict.{after_response, awaited, ends, response_verdict}
use Rattle.mon_poller.proofs.Changes.{ended_open, are_ended}
use Rattle.mon_poller.proofs.Verdicts.{ended_by, fails_early, gives_answer}
use Rattle.mon_poller.proofs.poller.Poller.close_answered.Goals as goal

pub returns-in_err-key-clause-verdict : goal.returns-in_err-key-clause-verdict
returns-in_err-key-clause-verdict c =
    let e = c.in_err-key.field-0.0 in
    let slots = c.self.inside.polls.slots in
    let read = Some c.args.message.now in
    let p = err_from_is_err_and c.from_residual.result c.from_residual.ensures.1 in
    let told : Fails e (awaited c.self.inside.targets (open_of slots) c.args.from read) =
    subst (λ (ts : List Target). Fails e (awaited ts (open_of slots) c.args.from read)) c.as_slice.ensures c.in_err-key.ensures.verdict in
    let early : Fails e (response_verdict c.args.self.now.targets c.args.self.now.polls.open_polls c.args.from read) =
    subst (λ (b : Poller). Fails e (response_verdict b.targets b.polls.open_polls c.args.from read)) c.self.view_is (fails_early c.self.inside.targets (open_of slots) c.args.from read e told) in
    rw (p.1, p.2) early

pub invariant_of-self : goal.invariant_of-self
invariant_of-self c =
    are_ended c.self.inside.targets c.self.inside.started c.self.inside.polls c.remove.new.self c.self.invariant c.in_ok-key.key c.in_ok-key.poll
    c.in_ok-key.ensures.slot c.remove.ensures.updates c.remove.ensures.len c.remove.ensures.capacity

pub returns-then-ends_poll-clause-verdict : goal.returns-then-ends_poll-clause-verdict
returns-then-ends_poll-clause-verdict c =
    let slots = c.self.inside.polls.slots in
    subst (λ (b : Poller). Gives (λ o. o) c.poll_answer-answered.result (response_verdict b.targets b.polls.open_polls c.args.from (Some c.args.message.now))) c.self.view_is
    (gives_answer c.self.inside.targets (open_of slots) c.args.from (Some c.args.message.now) (poll_in c.in_ok-key.poll) c.in_ok-key.pdu.now _ c.poll_answer-answered.result
    (ap (λ (ts : List Target). awaited ts (open_of slots) c.args.from (Some c.args.message.now)) (sym c.as_slice.ensures) ∙ c.in_ok-key.ensures.verdict)
    (c.at-target.ensures ∙ ap (target_at c.self.inside.targets) c.from.ensures) c.poll_answer-answered.ensures)

pub returns-else-ends_poll-clause-verdict : goal.returns-else-ends_poll-clause-verdict
returns-else-ends_poll-clause-verdict c =
    let slots = c.self.inside.polls.slots in
    subst (λ (b : Poller). Gives (λ o. o) c.poll_answer-answered.result (response_verdict b.targets b.polls.open_polls c.args.from (Some c.args.message.now))) c.self.view_is
    (gives_answer c.self.inside.targets (open_of slots) c.args.from (Some c.args.message.now) (poll_in c.in_ok-key.poll) c.in_ok-key.pdu.now _ c.poll_answer-answered.result
    (ap (λ (ts : List Target). awaited ts (open_of slots) c.args.from (Some c.args.message.now)) (sym c.as_slice.ensures) ∙ c.in_ok-key.ensures.verdict)
    (c.at-target.ensures ∙ ap (target_at c.self.inside.targets) c.from.ensures) c.poll_answer-answered.ensures)

pub returns-then-ends_poll-clause-polls : goal.returns-then-ends_poll-clause-polls
returns-then-ends_poll-clause-polls c =
    let read = Some c.args.message.now in
    let answered = c.poll_answer-answered.result in
    let targets = c.self.inside.targets in
    let n = c.self.inside.started in
    let old : Polls = record { open_polls = open_of c.self.inside.polls.slots; started = n } in
    let is = ended_open targets n c.self.inside.polls c.remove.new.self c.self.invariant c.in_ok-key.key c.in_ok-key.poll c.in_ok-key.ensures.slot c.remove.ensures.updates in
    let closes : after_response (ends answered) read old ≡ closed c.in_ok-key.poll.id old =
    ap (λ t. after_response t read old) (sym c.ends_poll.ensures ∙ c.if-ends_poll.true) ∙ ended_by c.args.message.now c.in_ok-key.pdu.now c.in_ok-key.poll.id old c.in_ok-key.ensures.response c.in_ok-key.ensures.id in
    subst (λ (b : Poller). ◌≡◌ {A = Poller} (record { targets = targets; polls = record { open_polls = open_of c.remove.new.self.slots; started = n } }) (record { targets = b.targets; polls = after_response (ends answered) read b.polls })) c.self.view_is
    ((λ i. record { targets = targets; polls = record { open_polls = is i; started = n } }) ∙ ap (λ (p : Polls). record { targets = targets; polls = p }) (sym closes))
