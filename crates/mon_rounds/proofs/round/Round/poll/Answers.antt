use Rattle.std.proofs.Common.{◌≡◌, rules}
use Rattle.mon_rounds.specs.declared.round.Phase.TheVariants.{Polling}
use Rattle.mon_rounds.specs.Next.{RoundState}
use Rattle.mon_rounds.proofs.Onward.{polled_last, polled_then}
use Rattle.mon_rounds.proofs.round.Round.poll.Goals as goal
use Rattle.mon_rounds.proofs.round.Round.poll.Goals.{then-from-len, else-from-len}

pub invariant_of-self : goal.invariant_of-self
invariant_of-self c =
    let r : RoundState = record { targets = c.self.inside.addresses.targets.items; peers = c.self.inside.addresses.peers.items; peer_addresses = c.self.inside.addresses.peer_addresses.items; wait_ms = c.self.inside.wait_ms; tries = c.self.inside.tries; saves = c.self.inside.saves; saving = c.self.inside.saving; phase = c.self.inside.phase; wait = c.self.inside.wait; datagrams = c.self.inside.datagrams; quiets = c.self.inside.quiets; timeouts = c.self.inside.timeouts; failures = c.self.inside.failures; events = c.self.inside.events.items } in
    let at : r.phase ≡ Polling c.args.target = search rules in
    elim c.if-from-len.branch [
      | then-from-len w ↦ polled_then _ _ r c.args.target _ _ _ c.self.invariant at w.self-is (search rules) c.push_reserved.ensures.items c.push_reserved.ensures.capacity
      | else-from-len w ↦ polled_last _ _ r c.args.target _ _ _ c.self.invariant at w.self-is (search rules) c.push_reserved.ensures.items c.push_reserved.ensures.capacity
    ]
