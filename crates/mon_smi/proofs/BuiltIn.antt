-- The built-in names are distinct.
use Rattle.std.proofs.Common.{◌≡◌, ℕ, zero, suc, ◌<◌, Bool, true, ◌&&◌, not, List, [], ◌∷◌, length, sym, refl, ap, ◌∙◌, arith}
use Rattle.std.specs.Prelude.{nat_eq}
use lib.Pointwise.{pointwise}
use Rattle.std.proofs.lemmas.Cmp.{nat_list_eq_equiv}
use Rattle.std.proofs.lemmas.Bool.{and_parts}
use Rattle.mon_smi.specs.declared.definition.Definition.{Definition}
use Rattle.mon_smi.specs.Names.{IsAt, AreDistinct}
use Rattle.mon_smi.specs.BuiltIn.{built_in}

-- a test of whether none has this name
abbrev is_new : List ℕ → List Definition → Bool
is_new w [] = true
is_new w (d ∷ ds) = not (pointwise nat_eq w d.name) && is_new w ds

-- a test of whether names are distinct
abbrev all_new : List Definition → Bool
all_new [] = true
all_new (d ∷ ds) = is_new d.name ds && all_new ds

new_name : (w : List ℕ) (ds : List Definition) (i : ℕ) (d : Definition) → is_new w ds ≡ true → IsAt ds i d → w ≡ d.name → ⊥
new_name w [] i d new at same = let no : i < 0 = at.0 in absurd (omega arith)
new_name w (e ∷ es) zero d new at same =
    let first = (and_parts (not (pointwise nat_eq w e.name)) (is_new w es) new).0 in
    let named : w ≡ e.name = same ∙ ap (λ (f : Definition). f.name) at.1 in
    let equal : pointwise nat_eq w e.name ≡ true = ap (λ (v : List ℕ). pointwise nat_eq v e.name) named ∙ nat_list_eq_equiv.refl e.name in
    absurd (cc)
new_name w (e ∷ es) (suc i) d new at same =
    let below : suc i < length (e ∷ es) = at.0 in
    new_name w es i d (and_parts (not (pointwise nat_eq w e.name)) (is_new w es) new).1 (omega arith, at.1) same

distinct_if : (ds : List Definition) → all_new ds ≡ true → AreDistinct ds
distinct_if [] new i j d e at_d at_e same = let no : i < 0 = at_d.0 in absurd (omega arith)
distinct_if (f ∷ fs) new zero zero d e at_d at_e same = refl
distinct_if (f ∷ fs) new zero (suc j) d e at_d at_e same =
    let below : suc j < length (f ∷ fs) = at_e.0 in
    absurd (new_name f.name fs j e (and_parts (is_new f.name fs) (all_new fs) new).0 (omega arith, at_e.1) (ap (λ (g : Definition). g.name) (sym at_d.1) ∙ same))
distinct_if (f ∷ fs) new (suc i) zero d e at_d at_e same =
    let below : suc i < length (f ∷ fs) = at_d.0 in
    absurd (new_name f.name fs i d (and_parts (is_new f.name fs) (all_new fs) new).0 (omega arith, at_d.1) (ap (λ (g : Definition). g.name) (sym at_e.1) ∙ sym same))
distinct_if (f ∷ fs) new (suc i) (suc j) d e at_d at_e same =
    let below : suc i < length (f ∷ fs) = at_d.0 in
    let below2 : suc j < length (f ∷ fs) = at_e.0 in
    ap suc (distinct_if fs (and_parts (is_new f.name fs) (all_new fs) new).1 i j d e (omega arith, at_d.1) (omega arith, at_e.1) same)

pub built_in_distinct : AreDistinct built_in
built_in_distinct = distinct_if built_in refl
