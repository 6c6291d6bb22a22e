use Rattle.std.proofs.Common.{◌<◌, All, length, subst}
use Rattle.mon_config.specs.StationCore.{Core}
use Rattle.mon_config.proofs.Cores.{numbers_below}
use Rattle.mon_config.proofs.station_core.Core.into_parts.Goals as goal

pub returns-clause-numbered : goal.returns-clause-numbered
returns-clause-numbered c =
    subst (λ (x : Core). All (λ t. All (λ o. o.instance < length x.watch.instances) t.objects) x.targets) c.self.view_is (numbers_below c.self.inside.watch _ c.self.invariant.objects)
