use Rattle.std.proofs.Common.{◌≡◌, None, rules}
use Rattle.mon_rounds.specs.Next.{RoundState, event_in_phase}
use Rattle.mon_rounds.proofs.Onward.{after_end}
use Rattle.mon_rounds.proofs.round.Round.end.Goals as goal

pub invariant_of-self : goal.invariant_of-self
invariant_of-self c =
    let r : RoundState = record { targets = c.self.inside.addresses.targets.items; peers = c.self.inside.addresses.peers.items; peer_addresses = c.self.inside.addresses.peer_addresses.items; wait_ms = c.self.inside.wait_ms; tries = c.self.inside.tries; saves = c.self.inside.saves; saving = c.self.inside.saving; phase = c.self.inside.phase; wait = c.self.inside.wait; datagrams = c.self.inside.datagrams; quiets = c.self.inside.quiets; timeouts = c.self.inside.timeouts; failures = c.self.inside.failures; events = c.self.inside.events.items } in
    let none : event_in_phase r.phase r None ≡ None = search rules in
    after_end _ r _ _ c.self.invariant none (search rules)
