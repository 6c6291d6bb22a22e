use Rattle.mon_mib.proofs.Gapped.{added}
use Rattle.mon_mib.proofs.search.Search.least_in_view.Goals as goal

pub invariant_of-self : goal.invariant_of-self
invariant_of-self g c = added g.D.Device.held _ _ c.self.view_is c.self.inside.gaps.items c.push.new.self.items
    (record { object = c.args.object; start = c.args.start; least = c.in_ok-least.least }) c.in_ok-push.ensures.items c.self.invariant c.in_ok-least.ensures
