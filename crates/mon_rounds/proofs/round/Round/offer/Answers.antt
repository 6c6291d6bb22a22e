use Rattle.std.proofs.Common.{◌≡◌, Some, rules}
use Rattle.std.specs.Prelude.{slice_get}
use Rattle.mon_rounds.specs.Next.{RoundState}
use Rattle.mon_rounds.specs.Orderly.{IsSharing}
use Rattle.mon_rounds.proofs.Onward.{shared_last, shared_then}
use Rattle.mon_rounds.proofs.round.Round.offer.Goals as goal
use Rattle.mon_rounds.proofs.round.Round.offer.Goals.{then-from-len, else-from-len}

pub invariant_of-self : goal.invariant_of-self
invariant_of-self c =
    let r : RoundState = record { targets = c.self.inside.addresses.targets.items; peers = c.self.inside.addresses.peers.items; peer_addresses = c.self.inside.addresses.peer_addresses.items; wait_ms = c.self.inside.wait_ms; tries = c.self.inside.tries; saves = c.self.inside.saves; saving = c.self.inside.saving; phase = c.self.inside.phase; wait = c.self.inside.wait; datagrams = c.self.inside.datagrams; quiets = c.self.inside.quiets; timeouts = c.self.inside.timeouts; failures = c.self.inside.failures; events = c.self.inside.events.items } in
    let at : IsSharing r.phase c.args.slot = search rules in
    let found : slice_get r.peers c.args.slot ≡ Some c.args.peer = search rules in
    elim c.if-from-len.branch [
      | then-from-len w ↦ shared_then _ _ r c.args.slot c.args.peer _ _ _ c.self.invariant at found w.self-is (search rules) c.push_reserved.ensures.items c.push_reserved.ensures.capacity
      | else-from-len w ↦ shared_last _ _ r c.args.slot c.args.peer _ _ _ c.self.invariant at found w.self-is (search rules) c.push_reserved.ensures.items c.push_reserved.ensures.capacity
    ]
