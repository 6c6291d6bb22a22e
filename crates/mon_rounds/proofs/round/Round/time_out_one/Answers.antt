use Rattle.std.proofs.Common.{◌≡◌, ◌<◌, true, rules}
use Rattle.mon_rounds.specs.Next.{RoundState, may_time_out, timed_out}
use Rattle.mon_rounds.specs.Orderly.{IsTiming}
use Rattle.mon_rounds.proofs.Onward.{after_timeout}
use Rattle.mon_rounds.proofs.round.Round.time_out_one.Goals as goal

pub invariant_of-self : goal.invariant_of-self
invariant_of-self c =
    let r : RoundState = record { targets = c.self.inside.addresses.targets.items; peers = c.self.inside.addresses.peers.items; peer_addresses = c.self.inside.addresses.peer_addresses.items; wait_ms = c.self.inside.wait_ms; tries = c.self.inside.tries; saves = c.self.inside.saves; saving = c.self.inside.saving; phase = c.self.inside.phase; wait = c.self.inside.wait; datagrams = c.self.inside.datagrams; quiets = c.self.inside.quiets; timeouts = c.self.inside.timeouts; failures = c.self.inside.failures; events = c.self.inside.events.items } in
    let at : IsTiming r.phase = search rules in
    let later : timed_out r.phase < c.args.id = search rules in
    let may : may_time_out r.phase r ≡ true = search rules in
    after_timeout _ _ r c.args.id _ _ _ c.self.invariant at later may (search rules) c.push_reserved.ensures.items c.push_reserved.ensures.capacity
