use Rattle.std.proofs.Common.{◌≡◌, ◌<◌, true, refl, rules}
use Rattle.mon_rounds.specs.Next.{RoundState, is_hearing}
use Rattle.mon_rounds.proofs.Onward.{after_arrival}
use Rattle.mon_rounds.proofs.round.Round.take.Goals as goal
use Rattle.mon_station.specs.declared.event.Event.TheVariants.{FromAgent, FromPeer}

pub invariant_of-self : goal.invariant_of-self
invariant_of-self c =
    let r : RoundState = record { targets = c.self.inside.addresses.targets.items; peers = c.self.inside.addresses.peers.items; peer_addresses = c.self.inside.addresses.peer_addresses.items; wait_ms = c.self.inside.wait_ms; tries = c.self.inside.tries; saves = c.self.inside.saves; saving = c.self.inside.saving; phase = c.self.inside.phase; wait = c.self.inside.wait; datagrams = c.self.inside.datagrams; quiets = c.self.inside.quiets; timeouts = c.self.inside.timeouts; failures = c.self.inside.failures; events = c.self.inside.events.items } in
    let at : is_hearing r.phase ≡ true = search rules in
    let some : 0 < r.datagrams = search rules in
    after_arrival _ _ r (FromPeer c.args.from) _ _ c.self.invariant at some refl c.push_reserved.ensures.items c.push_reserved.ensures.capacity

pub invariant_of-self-else-is_peer : goal.invariant_of-self-else-is_peer
invariant_of-self-else-is_peer c =
    let r : RoundState = record { targets = c.self.inside.addresses.targets.items; peers = c.self.inside.addresses.peers.items; peer_addresses = c.self.inside.addresses.peer_addresses.items; wait_ms = c.self.inside.wait_ms; tries = c.self.inside.tries; saves = c.self.inside.saves; saving = c.self.inside.saving; phase = c.self.inside.phase; wait = c.self.inside.wait; datagrams = c.self.inside.datagrams; quiets = c.self.inside.quiets; timeouts = c.self.inside.timeouts; failures = c.self.inside.failures; events = c.self.inside.events.items } in
    let at : is_hearing r.phase ≡ true = search rules in
    let some : 0 < r.datagrams = search rules in
    after_arrival _ _ r (FromAgent c.args.from tt) _ _ c.self.invariant at some refl c.push_reserved-else-is_peer.ensures.items c.push_reserved-else-is_peer.ensures.capacity
