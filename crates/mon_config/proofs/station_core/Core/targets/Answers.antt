use Rattle.std.proofs.Common.{◌<◌, All, length, subst}
use Rattle.mon_config.specs.StationCore.{Core, AreInstancesOf}
use Rattle.mon_config.proofs.Cores.{numbers_below}
use Rattle.mon_config.proofs.station_core.Core.targets.Goals as goal

pub returns-clause-watched : goal.returns-clause-watched
returns-clause-watched c = subst (λ (x : Core). AreInstancesOf x.watch x.targets) c.self.view_is c.self.invariant.objects

pub returns-clause-numbered : goal.returns-clause-numbered
returns-clause-numbered c =
    subst (λ (x : Core). All (λ t. All (λ o. o.instance < length x.watch.instances) t.objects) x.targets) c.self.view_is (numbers_below c.self.inside.watch _ c.self.invariant.objects)
