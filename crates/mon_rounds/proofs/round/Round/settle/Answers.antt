use Rattle.std.proofs.Common.{rules}
use Rattle.mon_rounds.specs.Next.{RoundState}
use Rattle.mon_rounds.proofs.Onward.{settles_as}
use Rattle.mon_rounds.proofs.round.Round.settle.Goals as goal

pub invariant_of-self : goal.invariant_of-self
invariant_of-self c =
    let r : RoundState = record { targets = c.self.inside.addresses.targets.items; peers = c.self.inside.addresses.peers.items; peer_addresses = c.self.inside.addresses.peer_addresses.items; wait_ms = c.self.inside.wait_ms; tries = c.self.inside.tries; saves = c.self.inside.saves; saving = c.self.inside.saving; phase = c.self.inside.phase; wait = c.self.inside.wait; datagrams = c.self.inside.datagrams; quiets = c.self.inside.quiets; timeouts = c.self.inside.timeouts; failures = c.self.inside.failures; events = c.self.inside.events.items } in
    settles_as _ r _ c.if-is_some.goes_on (search rules) c.self.invariant
