-- What holds where nothing is left of one of two lists, how many tables a list has, and how facts
-- follow equations.
use Rattle.std.proofs.Common.{◌≡◌, ℕ, ◌<◌, Bool, true, false, IsTrue, List, [], ◌∷◌, length, sym, subst, ◌∙◌, arith}
use Rattle.std.specs.Prelude.{◌==◌, if◌then◌else◌}
use Rattle.std.specs.List.{AllZip, filter}
use Rattle.std.proofs.lemmas.Bool.Decides.{nat_tests}
use Rattle.toml.specs.declared.value.Value.{Value}
use Rattle.toml.specs.View.{items_view}
use Rattle.mon_oid.specs.Oid.{dotted}
use Rattle.mon_smi.specs.declared.definition.Definition.{Definition}
use Rattle.mon_smi.specs.Labels.{name_text}
use Rattle.mon_survey.specs.declared.answers.Cell.{Cell}
use Rattle.mon_survey.specs.Appended.{shown_by}
use Rattle.mon_survey.specs.Labels.{AreInterfaces, count_items}
use Rattle.mon_survey.specs.Relabelled.{AreRest}

-- where there is nothing new, all is kept if there was nothing
pub nothing_new : {A B : Type 0} (R : A → B → Type 0) (test : B → Bool) (old : List A) (new : List B) (b : Bool) → length new < 1 → b ≡ (length old == 0)
    → (IsTrue b → AllZip R old (filter test new)) × (AllZip R old (filter test new) → IsTrue b)
nothing_new R test [] [] b lt e = (λ _. tt, λ _. e)
nothing_new R test (x ∷ xs) [] b lt e = (λ t. absurd (some t), λ all. absurd all)
  where
    some : b ≡ true → ⊥
    some t = grind (arith, nat_tests)
nothing_new R test old (y ∷ ys) b lt e = absurd (omega arith)

-- where no interface is left, no table may be
pub no_interface : (engine : List ℕ) (cells : List Cell) (indexes : List ℕ) (values : List Value) (b : Bool) → length indexes < 1 → b ≡ (length values == 0)
    → (IsTrue b → AreInterfaces engine cells indexes (items_view values)) × (AreInterfaces engine cells indexes (items_view values) → IsTrue b)
no_interface engine cells [] [] b lt e = (λ _. tt, λ _. e)
no_interface engine cells [] (v ∷ vs) b lt e = (λ t. absurd (some t), λ all. absurd all)
  where
    some : b ≡ true → ⊥
    some t = grind (arith, nat_tests)
no_interface engine cells (i ∷ is) values b lt e = absurd (omega arith)

-- where no old table is left, no new one may be
pub no_rest : (engine : List ℕ) (old new : List Value) (b : Bool) → length old < 1 → b ≡ (length new == 0) → (IsTrue b → AreRest engine (items_view old) (items_view new)) × (AreRest engine (items_view old) (items_view new) → IsTrue b)
no_rest engine [] [] b lt e = (λ _. tt, λ _. e)
no_rest engine [] (v ∷ vs) b lt e = (λ t. absurd (some t), λ all. absurd all)
  where
    some : b ≡ true → ⊥
    some t = grind (arith, nat_tests)
no_rest engine (o ∷ os) new b lt e = absurd (omega arith)

-- the tables of a list are as many as its values
pub counted : (vs : List Value) → count_items (items_view vs) ≡ length vs
counted [] = omega arith
counted (v ∷ vs) = let rest : count_items (items_view vs) ≡ length vs = counted vs in omega arith

-- what holds of two things holds of what is equal to them
pub moved : {A B : Type 0} (R : A → B → Type 0) {x x2 : A} {y y2 : B} → x ≡ x2 → y ≡ y2 → R x y → R x2 y2
moved R {x} {x2} {y} {y2} e f r = subst (λ a. R a y2) e (subst (λ b. R x b) f r)

-- where there are modules, names are shown by those
pub by_modules : (defs : List Definition) (n : ℕ) (b : Bool) → b ≡ (n == 0) → b ≡ false → (shown : List ℕ → List ℕ) → shown ≡ name_text defs → shown ≡ shown_by defs n
by_modules defs n b is not_empty shown e = subst (λ t. shown ≡ (if t then dotted else name_text defs)) (sym not_empty ∙ is) e

-- without a module names are shown in numbers
pub by_numbers : (defs : List Definition) (n : ℕ) (b : Bool) → b ≡ (n == 0) → b ≡ true → (shown : List ℕ → List ℕ) → shown ≡ dotted → shown ≡ shown_by defs n
by_numbers defs n b is empty shown e = subst (λ t. shown ≡ (if t then dotted else name_text defs)) (sym empty ∙ is) e
