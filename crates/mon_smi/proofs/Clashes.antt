-- Names that are defined again where definitions join others.
use Rattle.std.proofs.Common.{◌≡◌, ℕ, ◌+◌, ◌<◌, ◌≤◌, List, [], ◌∷◌, ◌++◌, length, get_or, take, Option, Some, None, sym, ap, ◌∙◌, subst, append_assoc, arith}
use Rattle.std.specs.Map.{update}
use Rattle.std.specs.Str.{bytes_eq}
use Rattle.std.proofs.lemmas.List.{length-take, take_all}
use Rattle.mon_smi.specs.declared.definition.Definition.{Definition}
use Rattle.mon_smi.specs.Names.{IsAt, IsUndefined, AreDistinct, IsFirstClash}
use Rattle.mon_smi.proofs.Chains.{at_front, at_back, undefined_both, distinct_push}
use Rattle.mon_smi.proofs.Indexed.{IsPlace, AreTold, more_is, told_more, untold_undefined}

-- a name that is known
pub clash_known : (known defs : List Definition) (i k : ℕ) (d : Definition) (w : List ℕ) → AreDistinct (known ++ take i defs) → i < length defs → d ≡ get_or defs i d → w ≡ d.name → (e : Definition) × IsAt known k e × (e.name ≡ w)
    → IsFirstClash known defs (record { added = i; earlier = k })
clash_known known defs i k d w distinct lt is named found = record {
  again = (d, found.0, (lt, is), at_front known (take i defs) k found.0 found.1, found.2 ∙ named);
  first = distinct;
}

-- a name that one of those passed has
pub clash_passed : (f : List ℕ → Option ℕ) (known defs : List Definition) (i j : ℕ) (d : Definition) (w : List ℕ) → AreTold f (take i defs) → AreDistinct (known ++ take i defs) → i < length defs → d ≡ get_or defs i d → w ≡ d.name → f w ≡ Some j
    → IsFirstClash known defs (record { added = i; earlier = length known + j })
clash_passed f known defs i j d w told distinct lt is named some =
    let place : IsPlace (take i defs) w (Some j) = subst (λ (r : Option ℕ). IsPlace (take i defs) w r) some (told w) in
    record {
      again = (d, place.0, (lt, is), at_back known (take i defs) j place.0 place.1, place.2 ∙ named);
      first = distinct;
    }

-- what was passed is there
pub passed_below : (f : List ℕ → Option ℕ) (defs : List Definition) (i j : ℕ) (w : List ℕ) → AreTold f (take i defs) → f w ≡ Some j → j < length defs
passed_below f defs i j w told some =
    let place : IsPlace (take i defs) w (Some j) = subst (λ (r : Option ℕ). IsPlace (take i defs) w r) some (told w) in
    let below : j < length (take i defs) = place.1.0 in
    omega (arith, length-take {A = Definition} i defs)

-- a name that is new is passed
pub no_clash : (f g : List ℕ → Option ℕ) (known defs : List Definition) (i : ℕ) (d : Definition) (w : List ℕ) → AreTold f (take i defs) → AreDistinct (known ++ take i defs) → i < length defs → d ≡ get_or defs i d → w ≡ d.name
    → IsUndefined known w → f w ≡ None → ((q : List ℕ) → g q ≡ update bytes_eq f w (Some i) q) → AreTold g (take (i + 1) defs) × AreDistinct (known ++ take (i + 1) defs)
no_clash f g known defs i d w told distinct lt is named unknown none g_is =
    let whole : known ++ take (i + 1) defs ≡ (known ++ take i defs) ++ d ∷ [] = ap (λ (l : List Definition). known ++ l) (more_is defs i d lt is) ∙ sym (append_assoc known (take i defs) (d ∷ [])) in
    let new : IsUndefined (known ++ take i defs) w = undefined_both known (take i defs) w unknown (untold_undefined f (take i defs) w told none) in (
      told_more f g defs i d w told none g_is lt is named,
      subst (λ (l : List Definition). AreDistinct l) (sym whole) (distinct_push (known ++ take i defs) d distinct (subst (λ (n : List ℕ). IsUndefined (known ++ take i defs) n) named new)),
    )

pub no_clashes : (known defs : List Definition) (i : ℕ) → length defs ≤ i → AreDistinct (known ++ take i defs) → AreDistinct (known ++ defs)
no_clashes known defs i all distinct = subst (λ (l : List Definition). AreDistinct (known ++ l)) (take_all i defs all) distinct
