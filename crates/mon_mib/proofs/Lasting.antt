-- The last places of names, found by going over the bindings of a Set once.
use Rattle.std.proofs.Common.{◌≡◌, ℕ, ◌+◌, ◌-◌, ◌<◌, ◌≤◌, Bool, true, false, cond, List, [], length, get_or, drop, Option, Some, None, sym, refl, ap, ◌∙◌, subst, arith, inl, inr}
use Rattle.std.specs.Prelude.{◌↔◌, ◌⊎◌, Any, IsSomeAnd}
use Rattle.std.specs.Borrow.{Bor}
use Rattle.std.specs.BTreeMap.{BTreeMap, is_at}
use Rattle.std.specs.Cmp.Lexicographic.{slice_cmp}
use Rattle.std.specs.Map.{lookup, update}
use Rattle.std.specs.Ordering.{nat_cmp}
use Rattle.std.specs.Str.{bytes_eq}
use Rattle.std.proofs.lemmas.Bool.{false≢true}
use Rattle.std.proofs.lemmas.List.{get_or-drop, length-drop, get_or_default}
use Rattle.std.proofs.lemmas.Slice.Eq.{bytes_eq-Decides}
use Rattle.mon_pdu.specs.declared.message.Binding.{Binding}
use Rattle.mon_mib.specs.LastPlaces.{AreLastPlaces, place_of}

-- a binding after one place and before another has the name
pub record IsNamedWithin (bs : List Binding) (place n : ℕ) (name : List ℕ) : Type 0 where
  pub at : ℕ
  pub binding : Binding
  pub after : place < at
  pub before : at < n
  pub within : at < length bs
  pub is : get_or bs at binding ≡ binding
  pub named : binding.name ≡ name

-- a function returns the last place of each name among the bindings before a place
abbrev pub AreLastBefore : List Binding → ℕ → (List ℕ → Option ℕ) → Type 0
AreLastBefore bs n f = (name : List ℕ) (place : ℕ) → IsSomeAnd (f name) (λ last. place < last) ↔ IsNamedWithin bs place n name

-- a map holds the last place of each name among the bindings before a place
abbrev pub AreLastUpTo : List Binding → ℕ → BTreeMap (Bor (List ℕ)) ℕ → Type 0
AreLastUpTo bs n places = AreLastBefore bs n (place_of places)

-- an empty map holds no place, and no binding is between the first and the second
pub none_yet : (bs : List Binding) (places : BTreeMap (Bor (List ℕ)) ℕ) → places.entries ≡ [] → AreLastUpTo bs 1 places
none_yet bs places empty name place = subst (λ (o : Option ℕ). IsSomeAnd o (λ last. place < last) ↔ IsNamedWithin bs place 1 name) (sym none)
    ((λ found. absurd found), λ w. absurd (between w))
  where
    none : place_of places name ≡ None
    none = ap (λ es. lookup (is_at (λ (k : Bor (List ℕ)). slice_cmp nat_cmp name k.now)) es) empty

    between : IsNamedWithin bs place 1 name → ⊥
    between w = let after : place < w.at = w.after in let before : w.at < 1 = w.before in omega arith

-- with one binding more, its place is the last one of its name
pub one_more : (f g : List ℕ → Option ℕ) (bs : List Binding) (n : ℕ) (b : Binding) (w : List ℕ) → AreLastBefore bs n f → n < length bs → b ≡ get_or bs n b
    → w ≡ b.name → ((q : List ℕ) → g q ≡ update bytes_eq f w (Some n) q) → AreLastBefore bs (n + 1) g
one_more f g bs n b w last lt is named now name place =
    subst (λ (o : Option ℕ). IsSomeAnd o (λ p. place < p) ↔ IsNamedWithin bs place (n + 1) name) (sym (now name)) (by_name (bytes_eq w name) refl)
  where
    reached : IsNamedWithin bs place (n + 1) name → place < n
    reached x = let after : place < x.at = x.after in let before : x.at < n + 1 = x.before in omega arith

    later_on : IsNamedWithin bs place n name → IsNamedWithin bs place (n + 1) name
    later_on x = record { at = x.at; binding = x.binding; after = x.after; before = let before : x.at < n = x.before in omega arith; within = x.within; is = x.is; named = x.named }

    split : (j : ℕ) → j < n + 1 → (j < n) ⊎ (j ≡ n)
    split j less = grind arith

    same_binding : (x : IsNamedWithin bs place (n + 1) name) → x.at ≡ n → b ≡ x.binding
    same_binding x same = is ∙ (get_or_default bs n b x.binding lt ∙ (ap (λ m. get_or bs m x.binding) (sym same) ∙ x.is))

    earlier : bytes_eq w name ≡ false → IsNamedWithin bs place (n + 1) name → IsNamedWithin bs place n name
    earlier other x = elim (split x.at x.before) [
      | inl less ↦ record { at = x.at; binding = x.binding; after = x.after; before = less; within = x.within; is = x.is; named = x.named }
      | inr same ↦ absurd (false≢true (sym other ∙ (bytes_eq-Decides w name).1 (named ∙ (ap (λ (c : Binding). c.name) (same_binding x same) ∙ x.named))))
    ]

    by_name : (t : Bool) → bytes_eq w name ≡ t → IsSomeAnd (cond t (Some n) (f name)) (λ p. place < p) ↔ IsNamedWithin bs place (n + 1) name
    by_name true same = (
      (λ less. record { at = n; binding = b; after = less; before = omega arith; within = lt; is = sym is; named = sym named ∙ (bytes_eq-Decides w name).0 same }),
      reached,
    )
    by_name false other = ((λ found. later_on ((last name place).0 found)), λ x. (last name place).1 (earlier other x))

-- a binding at a later place is among those after a place
pub later : (bs : List Binding) (i j : ℕ) (b : Binding) (P : Binding → Type 0) → i < j → j < length bs → get_or bs j b ≡ b → P b → Any P (drop (i + 1) bs)
later bs i j b P lt within at holds =
    (j - (i + 1), b, rw (length-drop (i + 1) bs) (omega arith), get_or-drop (i + 1) bs (j - (i + 1)) b ∙ (ap (λ n. get_or bs n b) back ∙ at), holds)
  where
    back : (i + 1) + (j - (i + 1)) ≡ j
    back = omega arith

-- behind the last binding all places are the last ones
pub all_last : (bs : List Binding) (n : ℕ) (places : BTreeMap (Bor (List ℕ)) ℕ) → length bs ≤ n → AreLastUpTo bs n places → AreLastPlaces bs places
all_last bs n places le last name place = (
  (λ found. let w = (last name place).0 found in later bs place w.at w.binding (λ b. b.name ≡ name) w.after w.within w.is w.named),
  λ a. (last name place).1 (within a),
)
  where
    within : Any (λ b. b.name ≡ name) (drop (place + 1) bs) → IsNamedWithin bs place n name
    within a =
        let less : a.0 < length bs - (place + 1) = rw (← length-drop (place + 1) bs) a.2 in
        record {
          at = (place + 1) + a.0;
          binding = a.1;
          after = omega arith;
          before = omega arith;
          within = omega arith;
          is = sym (get_or-drop (place + 1) bs a.0 a.1) ∙ a.3;
          named = a.4;
        }
