-- The three cases of a decision exclude one another.
use Rattle.std.proofs.Common.{◌≡◌, ℕ, List, refl, sym, ap, ◌∙◌, subst}
use Rattle.mon_vacm.specs.declared.decision.Decision.{Decision}
use Rattle.mon_vacm.specs.declared.decision.Decision.TheVariants as decision
use Rattle.mon_vacm.specs.declared.view_type.ViewType.{ViewType}
use Rattle.mon_vacm.specs.Decision.{IsRight}
use Rattle.mon_vacm.specs.Tables.{PolicyTables}
use Rattle.mon_vacm.specs.View.{IsInView}

module _ (tables : PolicyTables) (community : List ℕ) (need : ViewType) (name : List ℕ) where
  pub one_decision : (d e : Decision) → IsRight tables community need name d → IsRight tables community need name e → d ≡ e
  one_decision decision.Allowed decision.Allowed p q = refl
  one_decision decision.Allowed (decision.Denied why) p q = let both = sym p.1 ∙ q in cc
  one_decision decision.Allowed decision.NotInView p q =
      let both = sym p.1 ∙ q.1 in
      let same : p.0 ≡ q.0 = cc in
      absurd (q.2 (subst (λ (view : List ℕ). IsInView tables.families view name) same p.2))
  one_decision (decision.Denied why) decision.Allowed p q = let both = sym p ∙ q.1 in cc
  one_decision (decision.Denied why) (decision.Denied other) p q =
      let both = sym p ∙ q in
      let same : why ≡ other = cc in
      ap decision.Denied same
  one_decision (decision.Denied why) decision.NotInView p q = let both = sym p ∙ q.1 in cc
  one_decision decision.NotInView decision.Allowed p q =
      let both = sym p.1 ∙ q.1 in
      let same : p.0 ≡ q.0 = cc in
      absurd (p.2 (subst (λ (view : List ℕ). IsInView tables.families view name) (sym same) q.2))
  one_decision decision.NotInView (decision.Denied why) p q = let both = sym p.1 ∙ q in cc
  one_decision decision.NotInView decision.NotInView p q = refl
