use Rattle.std.proofs.Common.{◌∙◌}
use Rattle.mon_config.specs.StationCore.{Core}
use Rattle.mon_config.proofs.Cores.{with_core}
use Rattle.mon_config.proofs.station_core.Core.with.Goals as goal

pub invariant_of-result : goal.invariant_of-result
invariant_of-result c =
    let old : Core = record { station = c.self.inside.station; watch = c.self.inside.watch; targets = c.self.inside.targets.items; peers = c.self.inside.peers.items } in
    with_core old c.args.station c.in_ok-watch.watch c.in_ok-targets.targets.items c.in_ok-peers.peers.items c.args.peers.now
    c.self.invariant c.requires.station c.requires.peers c.in_ok-watch.ensures (c.in_ok-targets.ensures ∙ c.as_slice.ensures.value) c.in_ok-peers.ensures
