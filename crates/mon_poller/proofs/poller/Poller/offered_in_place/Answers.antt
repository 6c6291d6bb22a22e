use Rattle.std.proofs.Common.{◌≡◌, true, sym, ap, subst, ◌∙◌, Result, Ok, Some}
use Rattle.mon_poller.specs.declared.fault.ResponseFault.{ResponseFault}
use Rattle.mon_poller.specs.declared.poller.Offered.{Offered}
use Rattle.mon_poller.specs.Poller.{Poller, open_of, poll_in}
use Rattle.mon_poller.specs.Polls.{Polls, closed}
use Rattle.mon_poller.specs.Verdict.{after_response, response_verdict}
use Rattle.mon_poller.proofs.Changes.{ended_open, are_ended}
use Rattle.mon_poller.proofs.Verdicts.{by_answer, ended_by}
use Rattle.mon_poller.proofs.poller.Poller.offered_in_place.Goals as goal

pub invariant_of-self : goal.invariant_of-self
invariant_of-self c =
    are_ended c.self.inside.targets c.self.inside.started c.self.inside.polls c.remove.new.self c.self.invariant c.in_ok-key.key c.in_ok-key._poll
    c.in_ok-key.ensures.slot c.remove.ensures.updates c.remove.ensures.len c.remove.ensures.capacity

pub returns-clause-offered : goal.returns-clause-offered
returns-clause-offered c =
    let targets = c.self.inside.targets in
    let n = c.self.inside.started in
    let slots = c.self.inside.polls.slots in
    let poll = c.in_ok-key._poll in
    let m = c.in_ok-key.ensures.offered.0 in
    let pdu = c.in_ok-key.ensures.offered.1 in
    let is = c.in_ok-key.ensures.offered.2 in
    let answer : Result Offered ResponseFault = Ok c.in_ok-key.offered in
    let told : response_verdict targets (open_of slots) c.args.from (Some m) ≡ answer =
    by_answer targets (open_of slots) c.args.from (Some m) (poll_in poll) pdu is.found ∙ is.answer in
    let old : Polls = record { open_polls = open_of slots; started = n } in
    let without = ended_open targets n c.self.inside.polls c.remove.new.self c.self.invariant c.in_ok-key.key poll c.in_ok-key.ensures.slot c.remove.ensures.updates in
    let closes : after_response true (Some m) old ≡ closed poll.id old = ended_by m pdu poll.id old is.response is.named in (
      m,
      is.begins,
      subst (λ (b : Poller). response_verdict b.targets b.polls.open_polls c.args.from (Some m) ≡ answer) c.self.view_is told,
      subst (λ (b : Poller). ◌≡◌ {A = Poller} (record { targets = targets; polls = record { open_polls = open_of c.remove.new.self.slots; started = n } }) (record { targets = b.targets; polls = after_response true (Some m) b.polls })) c.self.view_is
          ((λ i. record { targets = targets; polls = record { open_polls = without i; started = n } }) ∙ ap (λ (p : Polls). record { targets = targets; polls = p }) (sym closes)),
    )
