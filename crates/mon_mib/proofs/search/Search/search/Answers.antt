use Rattle.std.proofs.Common.{sym, ◌∙◌}
use Rattle.std.proofs.lemmas.Bool.{false≢true}
use Rattle.mon_mib.specs.declared.start.Start.TheVariants.{Above}
use Rattle.mon_mib.specs.Search.{IsSeenIn}
use Rattle.mon_mib.proofs.Gapped.{in_rest, hidden}
use Rattle.mon_mib.proofs.search.Search.search.Goals as goal

pub returns-in-Some-find_gap : goal.returns-in-Some-find_gap
returns-in-Some-find_gap g c =
    let held = g.D.Device.held c.args.self.now.map.device in
    let sees = IsSeenIn c.args.self.now in
    in_rest held sees c.args.object c.args.start (Above c.in-Some.instance) c.in-Some-find_gap.gap.least
    (hidden held sees c.args.object c.args.start c.loop-instance.rest c.in-Some.instance c.loop-instance.invariant c.in-Some.ensures
    (λ seen. false≢true (sym c.if-branch.false ∙ c.in_ok-sees.ensures.1 seen)))
    c.in-Some-find_gap.ensures
