-- Looking for an interface by its index, and for the next one.
use Rattle.std.proofs.Common.{zero, suc, ◌≡◌, ℕ, ◌+◌, ◌<◌, ◌≤◌, ◌^◌, Bool, true, false, cond, List, [], ◌∷◌, length, get_or, refl, sym, ◌∙◌, ap, subst, arith, inl, inr, add-one, below_more}
use Rattle.std.specs.Prelude.{Option, Some, None, IfSome, Contains, AllPairs, find, nat_eq}
use Rattle.std.specs.Option.{option_copied, option_map}
use Rattle.std.specs.Borrow.{Bor}
use Rattle.std.proofs.lemmas.Bool.{eqb-true, ltb-true}
use Rattle.std.proofs.lemmas.Bool.Decides.{nat_tests}
use Rattle.std.proofs.lemmas.List.{get_or-map, length-map, get_or_default}
use Rattle.std.proofs.lemmas.List.Elements.{Contains-append_cases, Contains-append_left, Contains-append_right, Contains-push}
use Rattle.std.proofs.lemmas.List.Kept.{AllPairs-from_increasing}
use Rattle.mon_mib.specs.declared.interface.Interface.{Interface}
use Rattle.mon_mib.specs.Held.{AreIndexes, IsAbove, IsLeastOf}
use Rattle.mon_mib.specs.Sim.{indexes_of, interface_at, is_over}
use Rattle.mon_mib.proofs.Under.{one}

nothing : {X : Type 0} (x : X) → Contains [] x → ⊥
nothing x (k, lt, is) = omega arith

at_head : {X : Type 0} (x : X) (xs : List X) → Contains (x ∷ xs) x
at_head x xs = Contains-append_left (x ∷ []) xs x (Contains-push [] x)

pub in_tail : {X : Type 0} (x y : X) (xs : List X) → Contains xs y → Contains (x ∷ xs) y
in_tail x y xs at = Contains-append_right (x ∷ []) xs y at

-- ---- by its index

pub found : (ps : List Interface) (i : ℕ) → IfSome (interface_at ps i) (λ _. Contains (indexes_of ps) i)
found [] i = tt
found (p ∷ ps) i = by_test (nat_eq p.index i) refl (found ps i)
  where
    later : (r : Option Interface) → IfSome r (λ _. Contains (indexes_of ps) i) → IfSome r (λ _. Contains (p.index ∷ indexes_of ps) i)
    later None h = tt
    later (Some q) h = in_tail p.index i (indexes_of ps) h

    by_test : (b : Bool) → nat_eq p.index i ≡ b → IfSome (interface_at ps i) (λ _. Contains (indexes_of ps) i)
        → IfSome (cond b (Some p) (interface_at ps i)) (λ _. Contains (p.index ∷ indexes_of ps) i)
    by_test true e rest = subst (Contains (p.index ∷ indexes_of ps)) (eqb-true p.index i e) (at_head p.index (indexes_of ps))
    by_test false e rest = later (interface_at ps i) rest

missing : (ps : List Interface) (i : ℕ) → Contains (indexes_of ps) i → interface_at ps i ≡ None → ⊥
missing [] i at none = nothing i at
missing (p ∷ ps) i at none = by_test (nat_eq p.index i) refl none (missing ps i)
  where
    differs : {q : Interface} → Some q ≡ None → ⊥
    differs e = cc

    same : i ≡ p.index → nat_eq p.index i ≡ false → ⊥
    same e is = grind (arith, nat_tests)

    by_test : (b : Bool) → nat_eq p.index i ≡ b → cond b (Some p) (interface_at ps i) ≡ None
        → (Contains (indexes_of ps) i → interface_at ps i ≡ None → ⊥) → ⊥
    by_test true e h rest = differs h
    by_test false e h rest = elim (Contains-append_cases (p.index ∷ []) (indexes_of ps) i at) [
      | inl here ↦ same (one p.index i here) e
      | inr there ↦ rest there h
    ]

pub found_some : (ps : List Interface) (i : ℕ) (r : Option (Bor Interface)) (p : Bor Interface) → option_copied r ≡ interface_at ps i → r ≡ Some p
    → Contains (indexes_of ps) i
found_some ps i r p is some = subst (λ q. IfSome q (λ _. Contains (indexes_of ps) i)) (sym is ∙ ap option_copied some) (found ps i)

pub found_none : (ps : List Interface) (i : ℕ) (r : Option (Bor Interface)) → option_copied r ≡ interface_at ps i → r ≡ None
    → Contains (indexes_of ps) i → ⊥
found_none ps i r is none at = missing ps i at (sym is ∙ ap option_copied none)

-- ---- the next one

over_so : (a : Option ℕ) (i : ℕ) → is_over a i ≡ true → IsAbove a i
over_so None i e = tt
over_so (Some x) i e = ltb-true x i e

not_over : (a : Option ℕ) (i : ℕ) → is_over a i ≡ false → IsAbove a i → ⊥
not_over None i e above = cc
not_over (Some x) i e above = grind (arith, nat_tests)

tail_rises : (x : ℕ) (xs : List ℕ) → AllPairs (λ i j. i < j) (x ∷ xs) → AllPairs (λ i j. i < j) xs
tail_rises x xs all = λ i j d lt within. all (suc i) (suc j) d (omega arith) (omega arith)

head_least : (x : ℕ) (xs : List ℕ) → AllPairs (λ i j. i < j) (x ∷ xs) → (j : ℕ) → Contains xs j → x ≤ j
head_least x xs all j (k, lt, is) = low (all zero (suc k) j (omega arith) (omega arith)) is
  where
    low : {n m : ℕ} → x < n → n ≡ m → x ≤ m
    low lt e = omega arith

pub least : (a : Option ℕ) (ps : List Interface) → AllPairs (λ i j. i < j) (indexes_of ps)
    → IsLeastOf (indexes_of ps) (IsAbove a) (option_map (λ p. p.index) (find (λ p. is_over a p.index) ps))
least a [] rising = λ j at above. nothing j at
least a (p ∷ ps) rising = by_test (is_over a p.index) refl (least a ps (tail_rises p.index (indexes_of ps) rising))
  where
    split : (j : ℕ) → Contains (p.index ∷ indexes_of ps) j → (P : Type 0) → (j ≡ p.index → P) → (Contains (indexes_of ps) j → P) → P
    split j at P here there = elim (Contains-append_cases (p.index ∷ []) (indexes_of ps) j at) [ inl h ↦ here (one p.index j h) | inr t ↦ there t ]

    later : is_over a p.index ≡ false → (r : Option ℕ) → IsLeastOf (indexes_of ps) (IsAbove a) r → IsLeastOf (p.index ∷ indexes_of ps) (IsAbove a) r
    later e None h = λ j at above. split j at ⊥ (λ same. not_over a p.index e (subst (IsAbove a) same above)) (λ there. h j there above)
    later e (Some i) h = (
      in_tail p.index i (indexes_of ps) h.0,
      h.1,
      λ j at above. split j at (i ≤ j) (λ same. absurd (not_over a p.index e (subst (IsAbove a) same above))) (λ there. h.2 j there above),
    )

    by_test : (b : Bool) → is_over a p.index ≡ b
        → IsLeastOf (indexes_of ps) (IsAbove a) (option_map (λ q. q.index) (find (λ q. is_over a q.index) ps))
        → IsLeastOf (p.index ∷ indexes_of ps) (IsAbove a) (option_map (λ q. q.index) (cond b (Some p) (find (λ q. is_over a q.index) ps)))
    by_test true e rest = (
      at_head p.index (indexes_of ps),
      over_so a p.index e,
      λ j at above. split j at (p.index ≤ j) (λ same. omega arith) (λ there. head_least p.index (indexes_of ps) rising j there),
    )
    by_test false e rest = later e (option_map (λ q. q.index) (find (λ q. is_over a q.index) ps)) rest

pub least_some : (a : Option ℕ) (ps : List Interface) (r : Option (Bor Interface)) (p : Bor Interface) → AreIndexes (indexes_of ps)
    → option_copied r ≡ find (λ q. is_over a q.index) ps → r ≡ Some p → IsLeastOf (indexes_of ps) (IsAbove a) (Some p.now.index)
least_some a ps r p are is some =
    subst (λ q. IsLeastOf (indexes_of ps) (IsAbove a) (option_map (λ q. q.index) q)) (sym is ∙ ap option_copied some) (least a ps are.rising)

pub least_none : (a : Option ℕ) (ps : List Interface) (r : Option (Bor Interface)) → AreIndexes (indexes_of ps)
    → option_copied r ≡ find (λ q. is_over a q.index) ps → r ≡ None → IsLeastOf (indexes_of ps) (IsAbove a) None
least_none a ps r are is none =
    subst (λ q. IsLeastOf (indexes_of ps) (IsAbove a) (option_map (λ q. q.index) q)) (sym is ∙ ap option_copied none) (least a ps are.rising)

-- ---- whether they rise

-- the one before a place, 0 before the first
abbrev pub before : List ℕ → ℕ → ℕ
before xs zero = 0
before xs (suc n) = get_or xs n 0

pub record IsGood (xs : List ℕ) (j : ℕ) : Type 0 where
  pub over : before xs j < get_or xs j 0
  pub small : get_or xs j 0 < 2 ^ 31

pub all_good : (xs : List ℕ) → ((j : ℕ) → j < length xs → IsGood xs j) → AreIndexes xs
all_good xs good = record {
  rising = AllPairs-from_increasing xs (λ k lt. step k (good (k + 1) lt));
  positive = λ k d lt. subst (λ n. 1 ≤ n) (get_or_default xs k 0 d lt) (positive k lt (good k lt));
  small = λ k d lt. subst (λ n. n < 2 ^ 31) (get_or_default xs k 0 d lt) (good k lt).small;
}
  where
    step : (k : ℕ) → IsGood xs (k + 1) → get_or xs k 0 < get_or xs (k + 1) 0
    step k h = let g : IsGood xs (suc k) = rw add-one at h in rw add-one g.over

    positive : (k : ℕ) → k < length xs → IsGood xs k → 1 ≤ get_or xs k 0
    positive zero lt g = g.over
    positive (suc k) lt g = let over : get_or xs k 0 < get_or xs (suc k) 0 = g.over in omega arith

pub good_at : (xs : List ℕ) → AreIndexes xs → (j : ℕ) → j < length xs → IsGood xs j
good_at xs are zero lt = record { over = are.positive zero 0 lt; small = are.small zero 0 lt }
good_at xs are (suc j) lt = record { over = are.rising j (suc j) 0 (omega arith) lt; small = are.small (suc j) 0 lt }

-- an interface is read at a place of the list of interfaces
pub read : (ps : List Interface) (j : ℕ) (d : Interface) → j < length ps → get_or (indexes_of ps) j 0 ≡ (get_or ps j d).index
read ps j d lt = get_or-map (λ p. p.index) ps j d 0 lt

pub more_good : (ps : List Interface) (j : ℕ) (d : Interface) (last : ℕ) → j < length ps → last ≡ before (indexes_of ps) j
    → last < (get_or ps j d).index → (get_or ps j d).index < 2 ^ 31
    → ((i : ℕ) → i < j → IsGood (indexes_of ps) i) → (i : ℕ) → i < j + 1 → IsGood (indexes_of ps) i
more_good ps j d last lt is over small good = below_more (IsGood (indexes_of ps)) j good
    (record { over = rw (← is, read ps j d lt) over; small = rw (read ps j d lt) small })

pub next_last : (ps : List Interface) (j : ℕ) (d : Interface) → j < length ps → (get_or ps j d).index ≡ before (indexes_of ps) (j + 1)
next_last ps j d lt = rw add-one (sym (read ps j d lt))

pub whole : (ps : List Interface) (j : ℕ) → length ps ≤ j → ((i : ℕ) → i < j → IsGood (indexes_of ps) i) → AreIndexes (indexes_of ps)
whole ps j le good = all_good (indexes_of ps) (λ i lt. good i (omega (arith, length-map ps (λ (p : Interface). p.index))))
