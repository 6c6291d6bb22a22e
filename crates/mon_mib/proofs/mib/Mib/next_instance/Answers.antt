use Rattle.std.proofs.Common.{subst, sym}
use Rattle.mon_mib.specs.Order.{IsFrom}
use Rattle.mon_mib.specs.Known.{instances}
use Rattle.mon_mib.specs.Held.{IsLeastOf}
use Rattle.mon_mib.proofs.mib.Mib.next_instance.Goals as goal

pub returns-in-First : goal.returns-in-First
returns-in-First g c = subst (λ s. IsLeastOf (instances (g.D.Device.held c.args.self.now.device) c.args.object) (IsFrom s) c.instance_above.result) (sym c.in-First.is) c.instance_above.ensures

pub returns-in-Above : goal.returns-in-Above
returns-in-Above g c = subst (λ s. IsLeastOf (instances (g.D.Device.held c.args.self.now.device) c.args.object) (IsFrom s) c.instance_above-in-Above.result) (sym c.in-Above.is) c.instance_above-in-Above.ensures
