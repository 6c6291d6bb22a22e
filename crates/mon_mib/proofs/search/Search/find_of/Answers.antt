use Rattle.std.proofs.Common.{◌≡◌, ◌∙◌, subst}
use Rattle.mon_mib.specs.declared.start.Start.{Start}
use Rattle.mon_mib.specs.Gaps.{IsLeastInView}
use Rattle.mon_mib.specs.Objects.{prefix_of}
use Rattle.mon_mib.specs.Order.{start_of}
use Rattle.mon_mib.specs.Search.{IsSeenIn, known_in}
use Rattle.mon_mib.proofs.Gapped.{found_there, next_found, on_ok}
use Rattle.mon_mib.proofs.search.Search.find_of.Goals as goal

pub returns-clause-next : goal.returns-clause-next
returns-clause-next g c =
    let held = g.D.Device.held c.args.self.now.map.device in
    let sees = IsSeenIn c.args.self.now in
    let at : c.find_start-start.result ≡ start_of (prefix_of c.args.object) c.args.name.now =
    c.find_start-start.ensures ∙ (λ i. start_of (c.prefix.ensures i) (c.parts.ensures.parts i)) in
    on_ok c.least_in_view.result _ _
    (λ found least.
    next_found (known_in g.D.Device.held c.args.self.now) sees c.args.name.now c.args.object found
    (subst (λ (s : Start). IsLeastInView held sees c.args.object s found) at least))
    c.least_in_view.ensures.least

pub returns-clause-there : goal.returns-clause-there
returns-clause-there g c =
    on_ok c.least_in_view.result _ _ (λ found least. found_there (known_in g.D.Device.held c.args.self.now) (IsSeenIn c.args.self.now) c.args.name.now c.args.object c.find_start-start.result found least)
    c.least_in_view.ensures.least
