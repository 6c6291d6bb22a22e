use Rattle.std.proofs.Common.{◌≡◌, take, Any, List, ℕ, refl, sym, ◌∙◌, subst}
use Rattle.std.proofs.lemmas.Bool.{false≢true}
use Rattle.std.proofs.lemmas.List.{take_all}
use Rattle.mon_vacm.specs.declared.family.ViewTreeFamily.{ViewTreeFamily}
use Rattle.mon_vacm.specs.Tables.{AreFamiliesDistinct}
use Rattle.mon_vacm.proofs.Distinct.{pairs_more, twins}
use Rattle.mon_vacm.proofs.tables.Tables.are_families_distinct.Goals as goal

abbrev Alike : ViewTreeFamily → ViewTreeFamily → Type 0
Alike f g = (f.view_name ≡ g.view_name) × (f.subtree ≡ g.subtree)

-- some of the families is of the view and has the subtree
abbrev HasOne : List ViewTreeFamily → List ℕ → List ℕ → Type 0
HasOne families subtree view = Any (λ (f : ViewTreeFamily). (f.view_name ≡ view) × (f.subtree ≡ subtree)) families

pub returns-then-has_family : goal.returns-then-has_family
returns-then-has_family c =
    let xs = c.as_slice-families.result.now in
    let at = c.loop-i.i in
    let own = c.index-families-i.result in
    let twin = subst (HasOne (take at xs) own.subtree) c.as_slice.ensures (c.has_family.ensures.0 c.if-has_family.true) in
    ((λ lie. absurd (false≢true lie)), (λ distinct. absurd (twins Alike xs at own c.loop-i-test.true c.index-families-i.is twin (subst AreFamiliesDistinct (sym c.as_slice-families.ensures.value) distinct))))

pub loop-i-preserved : goal.loop-i-preserved
loop-i-preserved c =
    let xs = c.as_slice-families.result.now in
    let at = c.loop-i.i in
    let own = c.index-families-i.result in
    pairs_more Alike xs at own c.loop-i-test.true c.index-families-i.is c.loop-i.invariant
    (λ twin. false≢true (sym c.if-has_family.false ∙ c.has_family.ensures.1 (subst (HasOne (take at xs) own.subtree) (sym c.as_slice.ensures) twin)))

pub returns : goal.returns
returns c =
    let all = take_all c.loop-i.i c.as_slice-families.result.now c.loop-i-test.false ∙ c.as_slice-families.ensures.value in
    ((λ _. subst AreFamiliesDistinct all c.loop-i.invariant), (λ _. refl))
