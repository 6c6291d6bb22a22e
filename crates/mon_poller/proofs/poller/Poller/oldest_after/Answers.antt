use Rattle.std.proofs.Common.{subst}
use Rattle.mon_poller.specs.Poller.{Poller}
use Rattle.mon_poller.specs.Polls.{IsOldestAfter}
use Rattle.mon_poller.proofs.Slots.{oldest_after}
use Rattle.mon_poller.proofs.poller.Poller.oldest_after.Goals as goal

pub returns : goal.returns
returns c =
    let least = c.least_after.ensures in
    subst (λ (p : Poller). IsOldestAfter c.args.id p.polls.open_polls c.least_after.result) c.self.view_is
    (oldest_after c.self.inside.polls c.self.invariant.slots.distinct c.args.id c.least_after.result least.there least.greater least.least least.none)
