-- Places of definitions by their names.
use Rattle.std.proofs.Common.{◌≡◌, ℕ, ◌+◌, ◌-◌, ◌<◌, ◌≤◌, Bool, true, false, cond, List, [], ◌∷◌, ◌++◌, length, get_or, take, drop, Option, Some, None, sym, refl, ap, ◌∙◌, subst, arith, length-append, append_assoc, take-append-drop, ⊎_elim}
use Rattle.std.specs.Str.{bytes_eq}
use Rattle.std.specs.Prelude.{String, is_some, string_bytes}
use Rattle.std.specs.BTreeMap.{BTreeMap, is_at}
use Rattle.std.specs.Cmp.Lexicographic.{slice_cmp}
use Rattle.std.specs.Map.{lookup, update}
use Rattle.std.specs.Ordering.{nat_cmp}
use Rattle.std.proofs.lemmas.List.{get_or-take, take_more, length-take}
use Rattle.std.proofs.lemmas.Slice.Eq.{bytes_eq-Decides}
use Rattle.mon_smi.specs.declared.definition.Definition.{Definition}
use Rattle.mon_smi.specs.Names.{IsAt, IsUndefined, AreDistinct}
use Rattle.mon_smi.specs.Places.{AreFound, IsAgain}
use Rattle.mon_smi.proofs.Chains.{at_front, at_end, at_split, only_one, undefined_both}
use Rattle.mon_smi.proofs.ForText.{more_distinct}

-- the place of a name, where it has one
abbrev pub IsPlace : List Definition → List ℕ → Option ℕ → Type 0
IsPlace defs w None = IsUndefined defs w
IsPlace defs w (Some i) = (d : Definition) × IsAt defs i d × (d.name ≡ w)

-- the places of all names are known
abbrev pub AreTold : (List ℕ → Option ℕ) → List Definition → Type 0
AreTold f defs = (w : List ℕ) → IsPlace defs w (f w)

-- the first of the definitions with one more is at the place behind the others
pub more_is : (defs : List Definition) (i : ℕ) (d : Definition) → i < length defs → d ≡ get_or defs i d → take (i + 1) defs ≡ take i defs ++ d ∷ []
more_is defs i d lt is = take_more defs i d lt ∙ ap (λ (y : Definition). take i defs ++ y ∷ []) (sym is)

one_undefined : (d : Definition) (w : List ℕ) → (d.name ≡ w → ⊥) → IsUndefined (d ∷ []) w
one_undefined d w other e one named = other (ap (λ (x : Definition). x.name) (sym (only_one d e one.0 one.1).1) ∙ named)

-- one more place is known
pub told_more : (f g : List ℕ → Option ℕ) (defs : List Definition) (i : ℕ) (d : Definition) (w : List ℕ) → AreTold f (take i defs) → f w ≡ None → ((q : List ℕ) → g q ≡ update bytes_eq f w (Some i) q) → i < length defs → d ≡ get_or defs i d → w ≡ d.name → AreTold g (take (i + 1) defs)
told_more f g defs i d w told new g_is lt is named q =
    subst (λ (l : List Definition). IsPlace l q (g q)) (sym (more_is defs i d lt is))
    (subst (λ (r : Option ℕ). IsPlace (take i defs ++ d ∷ []) q r) (sym (g_is q)) (go (bytes_eq w q) refl))
  where
    len : length (take i defs) ≡ i
    len = omega (arith, length-take {A = Definition} i defs)

    old : (r : Option ℕ) → (w ≡ q → ⊥) → IsPlace (take i defs) q r → IsPlace (take i defs ++ d ∷ []) q r
    old None other place = undefined_both (take i defs) (d ∷ []) q place (one_undefined d q (λ same. other (named ∙ same)))
    old (Some j) other place = (place.0, at_front (take i defs) (d ∷ []) j place.0 place.1, place.2)

    go : (t : Bool) → bytes_eq w q ≡ t → IsPlace (take i defs ++ d ∷ []) q (cond t (Some i) (f q))
    go true same =
        (d, subst (λ k. IsAt (take i defs ++ d ∷ []) k d) len (at_end (take i defs) d), sym named ∙ (bytes_eq-Decides w q).0 same)
    go false other = old (f q) (λ same. let yes = (bytes_eq-Decides w q).1 same in absurd (cc)) (told q)

-- a name whose place is not known is new
pub untold_undefined : (f : List ℕ → Option ℕ) (defs : List Definition) (w : List ℕ) → AreTold f defs → f w ≡ None → IsUndefined defs w
untold_undefined f defs w told none = subst (λ (r : Option ℕ). IsPlace defs w r) none (told w)

-- a name whose place is known is there again
pub told_again : (f : List ℕ → Option ℕ) (defs : List Definition) (i j : ℕ) (d : Definition) (w : List ℕ) → AreTold f (take i defs) → f w ≡ Some j → i < length defs → d ≡ get_or defs i d → w ≡ d.name → IsAgain defs i d
told_again f defs i j d w told some lt is named =
    let place : IsPlace (take i defs) w (Some j) = subst (λ (r : Option ℕ). IsPlace (take i defs) w r) some (told w) in
    let below : j < i = omega (arith, place.1.0, length-take {A = Definition} i defs) in
    ((lt, is), (j, place.0, below, (omega arith, place.1.1 ∙ get_or-take i defs j place.0 below), place.2 ∙ named))

-- each definition is found at its name
abbrev pub IsFoundBy : (List ℕ → Option ℕ) → List Definition → Type 0
IsFoundBy f defs = (i : ℕ) (d : Definition) → IsAt defs i d → f d.name ≡ Some i

pub found_front : (f : List ℕ → Option ℕ) (xs ys : List Definition) → IsFoundBy f (xs ++ ys) → IsFoundBy f xs
found_front f xs ys found i d at = found i d (at_front xs ys i d at)

-- in a map with the same entries the same is found
pub found_unchanged : {Y : Type 0} (m n : BTreeMap (String Y) ℕ) (xs : List Definition) → n.entries ≡ m.entries → AreFound m xs → AreFound n xs
found_unchanged {Y} m n xs same found i d at = ap (λ (es : List (String Y × ℕ)). lookup (is_at (λ k. slice_cmp nat_cmp d.name (string_bytes k))) es) same ∙ found i d at

pub distinct_front : (xs ys : List Definition) → AreDistinct (xs ++ ys) → AreDistinct xs
distinct_front xs ys distinct i j d e at_d at_e same = distinct i j d e (at_front xs ys i d at_d) (at_front xs ys j e at_e) same

-- one more at the end is found at its name
pub found_push : (f g : List ℕ → Option ℕ) (xs : List Definition) (d : Definition) (w : List ℕ) → IsFoundBy f xs → AreDistinct (xs ++ d ∷ []) → w ≡ d.name → ((q : List ℕ) → g q ≡ update bytes_eq f w (Some (length xs)) q) → IsFoundBy g (xs ++ d ∷ [])
found_push f g xs d w found distinct named g_is j e at =
    g_is e.name ∙ ⊎_elim
    (λ (front : IsAt xs j e). ap (λ t. cond t (Some (length xs)) (f e.name)) (other front (bytes_eq w e.name) refl) ∙ found j e front)
    (λ (back : (length xs ≤ j) × IsAt (d ∷ []) (j - length xs) e).
    let only = only_one d e (j - length xs) back.1 in
    let late : length xs ≤ j = back.0 in
    let none : j - length xs ≡ 0 = only.0 in
    let place : length xs ≡ j = omega arith in
    ap (λ t. cond t (Some (length xs)) (f e.name)) ((bytes_eq-Decides w e.name).1 (named ∙ ap (λ (x : Definition). x.name) (sym only.1))) ∙ ap (λ k. Some k) place)
    (at_split xs (d ∷ []) j e at)
  where
    other : IsAt xs j e → (t : Bool) → bytes_eq w e.name ≡ t → t ≡ false
    other front false is = refl
    other front true is =
        let same : e.name ≡ d.name = sym ((bytes_eq-Decides w e.name).0 is) ∙ named in
        let place : j ≡ length xs = distinct j (length xs) e d at (at_end xs d) same in
        let below : j < length xs = front.0 in
        absurd (omega arith)

-- this many definitions behind the known ones are found, and then one more
pub found_more : (f g : List ℕ → Option ℕ) (known defs : List Definition) (i : ℕ) (d : Definition) (w : List ℕ) → IsFoundBy f (known ++ take i defs) → AreDistinct (known ++ defs) → ((q : List ℕ) → g q ≡ update bytes_eq f w (Some (length known + i)) q) → i < length defs → d ≡ get_or defs i d → w ≡ d.name → IsFoundBy g (known ++ take (i + 1) defs)
found_more f g known defs i d w found distinct g_is lt is named =
    let whole : known ++ take (i + 1) defs ≡ (known ++ take i defs) ++ d ∷ [] = ap (λ (l : List Definition). known ++ l) (more_is defs i d lt is) ∙ sym (append_assoc known (take i defs) (d ∷ [])) in
    let all : (known ++ take (i + 1) defs) ++ drop (i + 1) defs ≡ known ++ defs = append_assoc known (take (i + 1) defs) (drop (i + 1) defs) ∙ ap (λ (l : List Definition). known ++ l) (take-append-drop (i + 1) defs) in
    let size : length known + i ≡ length (known ++ take i defs) = omega (arith, length-append known (take i defs), length-take {A = Definition} i defs) in
    subst (λ (l : List Definition). IsFoundBy g l) (sym whole)
    (found_push f g (known ++ take i defs) d w found
    (subst AreDistinct whole (distinct_front (known ++ take (i + 1) defs) (drop (i + 1) defs) (subst AreDistinct (sym all) distinct)))
    named (subst (λ n. (q : List ℕ) → g q ≡ update bytes_eq f w (Some n) q) size g_is))

-- a name that is found nowhere, or whose place has another name, is not defined
pub missed : (f : List ℕ → Option ℕ) (defs : List Definition) (w : List ℕ) → IsFoundBy f defs → f w ≡ None → IsUndefined defs w
missed f defs w found none d one named =
    let is : f w ≡ Some one.0 = ap f (sym named) ∙ found one.0 d one.1 in
    absurd (cc)

pub misled : (f : List ℕ → Option ℕ) (defs : List Definition) (w : List ℕ) (i : ℕ) → IsFoundBy f defs → f w ≡ Some i → ((d : Definition) → IsAt defs i d → d.name ≡ w → ⊥) → IsUndefined defs w
misled f defs w i found some other d one named =
    let is : Some one.0 ≡ Some i = sym (ap f (sym named) ∙ found one.0 d one.1) ∙ some in
    let same : one.0 ≡ i = cc in
    other d (subst (λ k. IsAt defs k d) same one.1) named

-- what a search for the name gave decides whether it is there twice
pub found_twice : (f : List ℕ → Option ℕ) (defs : List Definition) (i : ℕ) (d : Definition) (w : List ℕ) (r : Option ℕ) → AreTold f (take i defs) → r ≡ f w → is_some r ≡ true → i < length defs → d ≡ get_or defs i d → w ≡ d.name → IsAgain defs i d
found_twice f defs i d w None told is some lt at named = absurd (cc)
found_twice f defs i d w (Some j) told is some lt at named = told_again f defs i j d w told (sym is) lt at named

pub found_new : (f g : List ℕ → Option ℕ) (defs : List Definition) (i : ℕ) (d : Definition) (w : List ℕ) (r : Option ℕ) → AreTold f (take i defs) → AreDistinct (take i defs) → r ≡ f w → is_some r ≡ false → ((q : List ℕ) → g q ≡ update bytes_eq f w (Some i) q) → i < length defs → d ≡ get_or defs i d → w ≡ d.name → AreTold g (take (i + 1) defs) × AreDistinct (take (i + 1) defs)
found_new f g defs i d w (Some j) told distinct is none g_is lt at named = absurd (cc)
found_new f g defs i d w None told distinct is none g_is lt at named =
    (told_more f g defs i d w told (sym is) g_is lt at named, more_distinct defs i d w lt at distinct named (untold_undefined f (take i defs) w told (sym is)))
