use Rattle.mon_mib.proofs.Gapped.{seen_as}
use Rattle.mon_mib.proofs.search.Search.show.Goals as goal

pub returns : goal.returns
returns g c = seen_as g.D.Device.held _ _ c.self.view_is c.args.name.now c.show.result (c.sees.ensures.0 c.if-not-sees.false) c.show.ensures
