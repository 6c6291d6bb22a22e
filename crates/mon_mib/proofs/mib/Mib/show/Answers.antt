use Rattle.std.proofs.Common.{◌≡◌, ◌++◌, ◌∷◌, [], sym, ◌∙◌, ap, get_or, subst}
use Rattle.mon_mib.specs.Known.{Known, known_of}
use Rattle.mon_mib.specs.Next.{IsServedName}
use Rattle.mon_mib.specs.Objects.{prefix_of}
use Rattle.mon_mib.specs.Shown.{got_of}
use Rattle.mon_mib.proofs.Gapped.{on_ok}
use Rattle.mon_mib.proofs.Unique.{got_there, no_instance, single, not_single}
use Rattle.mon_mib.proofs.mib.Mib.show.Goals as goal

pub returns-in_default : goal.returns-in_default
returns-in_default g c = subst (λ n. ¬ (IsServedName n)) c.parts.ensures.parts c.in_default.ensures.none

pub returns-then-rest-ne1 : goal.returns-then-rest-ne1
returns-then-rest-ne1 g c =
    let known : Known = known_of c.args.self.now.settings c.args.self.now.counters (g.D.Device.held c.args.self.now.device) c.args.moment in
    no_instance known c.args.name.now c.in-Some.object c.in-Some.rest.now c.in-Some.ensures.some.0 (sym c.parts.ensures.parts ∙ c.in-Some.ensures.some.1)
    (λ i is there. not_single c.in-Some.rest.now i c.if-rest-ne1.true is)

pub returns : goal.returns
returns g c =
    let known : Known = known_of c.args.self.now.settings c.args.self.now.counters (g.D.Device.held c.args.self.now.device) c.args.moment in
    let i = get_or c.in-Some.rest.now 0 0 in
    let named : c.args.name.now ≡ prefix_of c.in-Some.object ++ i ∷ [] =
    sym c.parts.ensures.parts ∙ (c.in-Some.ensures.some.1 ∙ ap (λ r. prefix_of c.in-Some.object ++ r) (single c.in-Some.rest.now c.if-rest-ne1.false)) in
    on_ok c.show_variable.result _ _ (λ shown is. got_there known c.args.name.now c.in-Some.object i (got_of shown) c.in-Some.ensures.some.0 named is) c.show_variable.ensures
