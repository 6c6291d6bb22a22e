use Rattle.std.proofs.Common.{◌≡◌, ◌↔◌, ◌∙◌, IsTrue, Some, sym, ap, subst}
use Rattle.std.specs.FinMap as map
use Rattle.std.specs.Prelude.{nat_lt, false}
use Rattle.mon_poller.specs.declared.target.Target.{Target}
use Rattle.mon_poller.specs.Poller.{Poller, open_of, poll_in}
use Rattle.mon_poller.specs.Polls.{Polls}
use Rattle.mon_poller.specs.Target.{target_at}
use Rattle.mon_poller.specs.Verdict.{timeout_verdict, IsSentAgain}
use Rattle.mon_poller.proofs.Changes.{goes_again, not_again}
use Rattle.mon_poller.proofs.Slots.{in_none, in_slot}
use Rattle.mon_poller.proofs.poller.Poller.has_tries.Goals as goal

pub returns-in-Some : goal.returns-in-Some
returns-in-Some c =
    let targets = c.self.inside.targets in
    let slots = c.self.inside.polls.slots in
    let poll = c.in-Some.poll in
    let p : Polls = record { open_polls = open_of slots; started = c.self.inside.started } in
    let target : c.at.result.now ≡ target_at targets poll.target =
    c.at.ensures ∙ ap (target_at targets) c.from.ensures in
    let has : map.get (open_of slots) c.args.id ≡ Some (poll_in poll) = ap (map.get (open_of slots)) (sym c.in-Some.ensures.same) ∙ in_slot slots c.in-Some._key poll c.self.invariant.slots.distinct c.in-Some.ensures.found in
    subst (λ (b : Poller). IsTrue (nat_lt poll.sends c.at.result.now.tries) ↔ IsSentAgain (timeout_verdict b.targets b.polls c.args.id)) c.self.view_is
    (subst (λ (t : Target). IsTrue (nat_lt poll.sends t.tries) ↔ IsSentAgain (timeout_verdict targets p c.args.id)) (sym target) (goes_again targets p c.args.id (poll_in poll) has))

pub returns-in-None : goal.returns-in-None
returns-in-None c =
    let slots = c.self.inside.polls.slots in
    let p : Polls = record { open_polls = open_of slots; started = c.self.inside.started } in
    subst (λ (b : Poller). IsTrue false ↔ IsSentAgain (timeout_verdict b.targets b.polls c.args.id)) c.self.view_is
    (not_again c.self.inside.targets p c.args.id (in_none slots c.args.id c.in-None.ensures.absent))
