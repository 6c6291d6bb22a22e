use Rattle.mon_mib.proofs.Gapped.{shown}
use Rattle.mon_mib.proofs.search.Search.get.Goals as goal

pub returns : goal.returns
returns g c = shown g.D.Device.held _ _ c.self.view_is c.args.name.now c.get.result (c.sees.ensures.0 c.if-not-sees.false) c.get.ensures
