use Rattle.std.proofs.Common.{take, List, [], ◌∷◌, ◌++◌, sym, ap, ◌∙◌, subst, append_assoc, append-nil}
use Rattle.std.proofs.lemmas.List.{take_more, take_all}
use Rattle.mon_vacm.specs.declared.family.ViewTreeFamily.{ViewTreeFamily}
use Rattle.mon_vacm.specs.View.{IsBest}
use Rattle.mon_vacm.proofs.policy.strongest.Goals as goal

pub loop-family-init : goal.loop-family-init
loop-family-init c = λ others best. subst (λ (fs : List ViewTreeFamily). IsBest fs c.args.view.now c.args.name.now c.args.best) (sym (append-nil others)) best

pub loop-family-preserved : goal.loop-family-preserved
loop-family-preserved c = λ others best.
    let xs = c.args.families.now in
    let at = c.loop-family.family-index in
    let more = take_more xs at c.family-item.result c.loop-family-test.true ∙ ap (λ y. take at xs ++ y ∷ []) (sym c.family-item.is) in
    subst (λ (fs : List ViewTreeFamily). IsBest fs c.args.view.now c.args.name.now c.stronger-found.result)
    (append_assoc others (take at xs) (c.family-item.result ∷ []) ∙ ap (λ (fs : List ViewTreeFamily). others ++ fs) (sym more))
    (c.stronger-found.ensures (others ++ take at xs) (c.loop-family.invariant others best))

pub returns : goal.returns
returns c = λ others best.
    subst (λ (fs : List ViewTreeFamily). IsBest (others ++ fs) c.args.view.now c.args.name.now c.loop-family.found) (take_all c.loop-family.family-index c.args.families.now c.loop-family-test.false)
    (c.loop-family.invariant others best)
