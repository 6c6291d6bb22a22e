use Rattle.std.proofs.Common.{◌≡◌, ◌<◌, ◌≤◌, ◌+◌, Some, sym, ap, subst, ◌∙◌, arith}
use Rattle.std.specs.FinMap as map
use Rattle.std.proofs.lemmas.Result.{err_from_is_err_and}
use Rattle.slab.specs.Slab.{with_value}
use Rattle.mon_poller.specs.declared.poller.OpenPoll.{OpenPoll}
use Rattle.mon_poller.specs.declared.poller.TimedOut.TheVariants.{Again, GivenUp, NotOpen}
use Rattle.mon_poller.specs.declared.target.Target.{Target}
use Rattle.mon_poller.specs.Poller.{Poller, open_of, poll_in}
use Rattle.mon_poller.specs.Polls.{Polls, timed}
use Rattle.mon_poller.specs.Target.{target_at, poll_octets}
use Rattle.mon_poller.specs.Verdict.{timeout_verdict, tries_of, IsSentAgain}
use Rattle.mon_poller.proofs.Changes.{ended_open, are_ended, resent_open, are_resent, not_open, given_up, again, same_poll}
use Rattle.mon_poller.proofs.Slots.{in_none, in_slot}
use Rattle.mon_poller.proofs.poller.Poller.time_out.Goals as goal

pub returns-in_default-clause-verdict : goal.returns-in_default-clause-verdict
returns-in_default-clause-verdict c =
    let slots = c.self.inside.polls.slots in
    let p : Polls = record { open_polls = open_of slots; started = c.self.inside.started } in
    subst (λ (b : Poller). NotOpen ≡ timeout_verdict b.targets b.polls c.args.id) c.self.view_is (sym (not_open c.self.inside.targets p c.args.id (in_none slots c.args.id c.in_default.ensures.absent)).0)

pub returns-in_default-clause-polls : goal.returns-in_default-clause-polls
returns-in_default-clause-polls c =
    let slots = c.self.inside.polls.slots in
    let p : Polls = record { open_polls = open_of slots; started = c.self.inside.started } in
    subst (λ (b : Poller). b ≡ record { targets = b.targets; polls = timed (tries_of b.targets) c.args.id b.polls }) c.self.view_is
    (ap (λ (q : Polls). record { targets = c.self.inside.targets; polls = q }) (sym (not_open c.self.inside.targets p c.args.id (in_none slots c.args.id c.in_default.ensures.absent)).1))

pub invariant_of-self : goal.invariant_of-self
invariant_of-self c =
    are_ended c.self.inside.targets c.self.inside.started c.self.inside.polls c.remove.new.self c.self.invariant c.in-Some.key c.in-Some.poll
    c.in-Some.ensures.found c.remove.ensures.updates c.remove.ensures.len c.remove.ensures.capacity

pub returns-then-poll-at-clause-verdict : goal.returns-then-poll-at-clause-verdict
returns-then-poll-at-clause-verdict c =
    let targets = c.self.inside.targets in
    let slots = c.self.inside.polls.slots in
    let poll = c.in-Some.poll in
    let p : Polls = record { open_polls = open_of slots; started = c.self.inside.started } in
    let target : c.at.result.now ≡ target_at targets poll.target =
    c.at.ensures ∙ ap (target_at targets) c.from-number.ensures in
    let has : map.get (open_of slots) c.args.id ≡ Some (poll_in poll) = ap (map.get (open_of slots)) (sym c.in-Some.ensures.same) ∙ in_slot slots c.in-Some.key poll c.self.invariant.slots.distinct c.in-Some.ensures.found in
    let last : (target_at targets poll.target).tries ≤ poll.sends = subst (λ (t : Target). t.tries ≤ poll.sends) target c.if-poll-at.true in
    subst (λ (b : Poller). GivenUp poll.target ≡ timeout_verdict b.targets b.polls c.args.id) c.self.view_is (sym (given_up targets p c.args.id (poll_in poll) has last).0)

pub returns-then-poll-at-clause-polls : goal.returns-then-poll-at-clause-polls
returns-then-poll-at-clause-polls c =
    let targets = c.self.inside.targets in
    let slots = c.self.inside.polls.slots in
    let poll = c.in-Some.poll in
    let n = c.self.inside.started in
    let p : Polls = record { open_polls = open_of slots; started = n } in
    let target : c.at.result.now ≡ target_at targets poll.target =
    c.at.ensures ∙ ap (target_at targets) c.from-number.ensures in
    let has : map.get (open_of slots) c.args.id ≡ Some (poll_in poll) = ap (map.get (open_of slots)) (sym c.in-Some.ensures.same) ∙ in_slot slots c.in-Some.key poll c.self.invariant.slots.distinct c.in-Some.ensures.found in
    let last : (target_at targets poll.target).tries ≤ poll.sends = subst (λ (t : Target). t.tries ≤ poll.sends) target c.if-poll-at.true in
    let is : open_of c.remove.new.self.slots ≡ map.remove (open_of slots) c.args.id =
    ended_open targets n c.self.inside.polls c.remove.new.self c.self.invariant c.in-Some.key poll c.in-Some.ensures.found c.remove.ensures.updates ∙ ap (map.remove (open_of slots)) c.in-Some.ensures.same in
    subst (λ (b : Poller). record { targets = targets; polls = record { open_polls = open_of c.remove.new.self.slots; started = n } } ≡ record { targets = b.targets; polls = timed (tries_of b.targets) c.args.id b.polls }) c.self.view_is
    ((λ i. record { targets = targets; polls = record { open_polls = is i; started = n } }) ∙ ap (λ (q : Polls). record { targets = targets; polls = q }) (sym (given_up targets p c.args.id (poll_in poll) has last).1))

pub returns-in_err-octets-clause-memory : goal.returns-in_err-octets-clause-memory
returns-in_err-octets-clause-memory c =
    let targets = c.self.inside.targets in
    let slots = c.self.inside.polls.slots in
    let poll = c.in-Some.poll in
    let p : Polls = record { open_polls = open_of slots; started = c.self.inside.started } in
    let target : c.at.result.now ≡ target_at targets poll.target =
    c.at.ensures ∙ ap (target_at targets) c.from-number.ensures in
    let has : map.get (open_of slots) c.args.id ≡ Some (poll_in poll) = ap (map.get (open_of slots)) (sym c.in-Some.ensures.same) ∙ in_slot slots c.in-Some.key poll c.self.invariant.slots.distinct c.in-Some.ensures.found in
    let more : poll.sends < (target_at targets poll.target).tries = subst (λ (t : Target). poll.sends < t.tries) target c.if-poll-at.false in
    let wanted : IsSentAgain (timeout_verdict c.args.self.now.targets c.args.self.now.polls c.args.id) =
    subst (λ (b : Poller). IsSentAgain (timeout_verdict b.targets b.polls c.args.id)) c.self.view_is (subst IsSentAgain (sym (again targets p c.args.id (poll_in poll) has more).0) tt) in
    let q = err_from_is_err_and c.from_residual.result c.from_residual.ensures.1 in
    rw q.1 wanted

pub invariant_of-self-2 : goal.invariant_of-self-2
invariant_of-self-2 c =
    let targets = c.self.inside.targets in
    let poll = c.in-Some.poll in
    let n = c.self.inside.started in
    let target : c.at.result.now ≡ target_at targets poll.target =
    c.at.ensures ∙ ap (target_at targets) c.from-number.ensures in
    let more : poll.sends < (target_at targets poll.target).tries = subst (λ (t : Target). poll.sends < t.tries) target c.if-poll-at.false in
    let old = c.index_mut.result.now in
    let same : old ≡ poll = same_poll old poll (sym c.index_mut.ensures.value ∙ c.in-Some.ensures.found) in
    let q : OpenPoll = record { id = old.id; target = old.target; sends = old.sends + 1 } in
    are_resent targets n c.self.inside.polls c.self.invariant c.in-Some.key poll q c.in-Some.ensures.found (ap (λ (x : OpenPoll). x.id) same) (ap (λ (x : OpenPoll). x.target) same)
    (omega (arith, more, ap (λ (x : OpenPoll). x.sends) same))

pub returns-clause-verdict : goal.returns-clause-verdict
returns-clause-verdict c =
    let targets = c.self.inside.targets in
    let slots = c.self.inside.polls.slots in
    let poll = c.in-Some.poll in
    let n = c.self.inside.started in
    let p : Polls = record { open_polls = open_of slots; started = n } in
    let target : c.at.result.now ≡ target_at targets poll.target =
    c.at.ensures ∙ ap (target_at targets) c.from-number.ensures in
    let has : map.get (open_of slots) c.args.id ≡ Some (poll_in poll) = ap (map.get (open_of slots)) (sym c.in-Some.ensures.same) ∙ in_slot slots c.in-Some.key poll c.self.invariant.slots.distinct c.in-Some.ensures.found in
    let more : poll.sends < (target_at targets poll.target).tries = subst (λ (t : Target). poll.sends < t.tries) target c.if-poll-at.false in
    subst (λ (b : Poller). Again poll.target c.in_ok-octets.octets ≡ timeout_verdict b.targets b.polls c.args.id) c.self.view_is
    (ap (λ o. Again poll.target o) (c.in_ok-octets.ensures ∙ ap (λ n. poll_octets (target_at targets n) c.args.id) c.from-number.ensures) ∙ sym (again targets p c.args.id (poll_in poll) has more).0)

pub returns-clause-polls : goal.returns-clause-polls
returns-clause-polls c =
    let targets = c.self.inside.targets in
    let slots = c.self.inside.polls.slots in
    let poll = c.in-Some.poll in
    let n = c.self.inside.started in
    let p : Polls = record { open_polls = open_of slots; started = n } in
    let target : c.at.result.now ≡ target_at targets poll.target =
    c.at.ensures ∙ ap (target_at targets) c.from-number.ensures in
    let has : map.get (open_of slots) c.args.id ≡ Some (poll_in poll) = ap (map.get (open_of slots)) (sym c.in-Some.ensures.same) ∙ in_slot slots c.in-Some.key poll c.self.invariant.slots.distinct c.in-Some.ensures.found in
    let more : poll.sends < (target_at targets poll.target).tries = subst (λ (t : Target). poll.sends < t.tries) target c.if-poll-at.false in
    let old = c.index_mut.result.now in
    let same : old ≡ poll = same_poll old poll (sym c.index_mut.ensures.value ∙ c.in-Some.ensures.found) in
    let q : OpenPoll = record { id = old.id; target = old.target; sends = old.sends + 1 } in
    let id : old.id ≡ c.args.id = ap (λ (x : OpenPoll). x.id) same ∙ c.in-Some.ensures.same in
    let is = resent_open targets n c.self.inside.polls c.self.invariant c.in-Some.key poll q c.in-Some.ensures.found (ap (λ (x : OpenPoll). x.id) same) (ap (λ (x : OpenPoll). x.target) same) in
    subst (λ (b : Poller). ◌≡◌ {A = Poller} (record { targets = targets; polls = record { open_polls = open_of (with_value c.self.inside.polls c.in-Some.key q).slots; started = n } }) (record { targets = b.targets; polls = timed (tries_of b.targets) c.args.id b.polls })) c.self.view_is
    ((λ i. record { targets = targets; polls = record { open_polls = is i; started = n } })
    ∙ (λ i. record { targets = targets; polls = record { open_polls = map.insert (open_of slots) (id i) (record { target = (same i).target; sends = (same i).sends + 1 }); started = n } })
    ∙ ap (λ (r : Polls). record { targets = targets; polls = r }) (sym (again targets p c.args.id (poll_in poll) has more).1))
