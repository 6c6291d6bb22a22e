-- What a search among rising indexes finds.
use Rattle.std.proofs.Common.{zero, suc, ◌≡◌, ℕ, ◌<◌, ◌≤◌, Bool, true, false, cond, List, [], ◌∷◌, length, get_or, refl, sym, ◌∙◌, ap, subst, arith}
use Rattle.std.specs.List.{AllWithin}
use Rattle.std.proofs.lemmas.Bool.Decides.{nat_tests}
use Rattle.std.specs.Prelude.{Option, Some, None, Result, Ok, Err, IfSome, Contains, AllPairs, find, not}
use Rattle.std.specs.declared.cmp.Ordering.{Ordering}
use Rattle.std.specs.declared.cmp.Ordering.TheVariants.{Less, Equal, Greater}
use Rattle.std.specs.Ordering.{nat_cmp, ordering_index}
use Rattle.std.specs.List.Sorted.{IsBinarySearchResult, IsSearchInRange, IsPartitionedBy}
use Rattle.std.proofs.lemmas.Cmp.{by_ranked, ranked}
use Rattle.std.proofs.lemmas.List.{get_or-map, length-map}
use Rattle.mon_mib.specs.declared.interface.Interface.{Interface}
use Rattle.mon_mib.specs.Sim.{indexes_of, interface_at, is_over, IsPlaceOfIndex}
use Rattle.mon_mib.proofs.Applying.{here}
use Rattle.mon_mib.proofs.Simulated.{found}

equal_is : (a b : ℕ) → nat_cmp a b ≡ Equal → a ≡ b
equal_is a b e = by_ranked (a < b) (a ≡ b) (b < a) (nat_cmp a b) (ranked a b (nat_cmp a b) refl) (λ r lt. absurd (less r e)) (λ r same. same) (λ r gt. absurd (greater r e))
  where
    less : {o : Ordering} → o ≡ Less → o ≡ Equal → ⊥
    less p q = cc

    greater : {o : Ordering} → o ≡ Greater → o ≡ Equal → ⊥
    greater p q = cc

pub search_found : (ps : List Interface) (i k : ℕ) (r : Result ℕ ℕ) → IsBinarySearchResult (λ (p : Interface). nat_cmp p.index i) ps r → IsSearchInRange r (length ps)
    → r ≡ Ok k → IsPlaceOfIndex ps i k
search_found ps i k r found within is =
    let at = subst (IsBinarySearchResult (λ (p : Interface). nat_cmp p.index i) ps) is found in
    let low = subst (λ s. IsSearchInRange s (length ps)) is within in
    record { within = low; is = λ d. equal_is (get_or ps k d).index i (at d) }

rises : (ps : List Interface) (i j : ℕ) (d : Interface) → AllPairs (λ n m. n < m) (indexes_of ps) → i ≤ j → j < length ps → (get_or ps i d).index ≤ (get_or ps j d).index
rises ps i j d rising le within = by_cases (nat_cmp i j) refl
  where
    up : i < j → (get_or ps i d).index ≤ (get_or ps j d).index
    up lt =
        let over : get_or (indexes_of ps) i 0 < get_or (indexes_of ps) j 0 = rising i j 0 lt (subst (λ n. j < n) (sym (length-map ps (λ (p : Interface). p.index))) within) in
        let a : get_or (indexes_of ps) i 0 ≡ (get_or ps i d).index = get_or-map (λ (p : Interface). p.index) ps i d 0 (omega arith) in
        let b : get_or (indexes_of ps) j 0 ≡ (get_or ps j d).index = get_or-map (λ (p : Interface). p.index) ps j d 0 within in
        omega arith

    by_cases : (o : Ordering) → nat_cmp i j ≡ o → (get_or ps i d).index ≤ (get_or ps j d).index
    by_cases o e = by_ranked (i < j) (i ≡ j) (j < i) (nat_cmp i j) (ranked i j (nat_cmp i j) refl) (λ r lt. up lt)
        (λ r same. let s : (get_or ps i d).index ≡ (get_or ps j d).index = ap (λ n. (get_or ps n d).index) same in omega arith) (λ r gt. absurd (omega arith))

index_rises : (a b i : ℕ) → a ≤ b → ordering_index (nat_cmp a i) ≤ ordering_index (nat_cmp b i)
index_rises a b i le = by_ranked (a < i) (a ≡ i) (i < a) (nat_cmp a i) (ranked a i (nat_cmp a i) refl)
    (λ r lt. subst (λ o. ordering_index o ≤ ordering_index (nat_cmp b i)) (sym r) (omega arith))
    (λ r same. by_ranked (b < i) (b ≡ i) (i < b) (nat_cmp b i) (ranked b i (nat_cmp b i) refl) (λ q lt. absurd (omega arith)) (λ q e. two r q (omega arith)) (λ q gt. two r q (omega arith)))
    (λ r gt. by_ranked (b < i) (b ≡ i) (i < b) (nat_cmp b i) (ranked b i (nat_cmp b i) refl) (λ q lt. absurd (omega arith)) (λ q e. absurd (omega arith)) (λ q more. two r q (omega arith)))
  where
    two : {o p : Ordering} → nat_cmp a i ≡ o → nat_cmp b i ≡ p → ordering_index o ≤ ordering_index p → ordering_index (nat_cmp a i) ≤ ordering_index (nat_cmp b i)
    two e f le = rw (e, f) le

pub search_none : (ps : List Interface) (i k : ℕ) (r : Result ℕ ℕ) → AllPairs (λ n m. n < m) (indexes_of ps) → IsBinarySearchResult (λ (p : Interface). nat_cmp p.index i) ps r
    → r ≡ Err k → Contains (indexes_of ps) i → ⊥
search_none [] i k r rising found is (j, lt, at) = omega arith
search_none (q ∷ qs) i k r rising found is (j, lt, at) =
    let split = subst (IsBinarySearchResult (λ (p : Interface). nat_cmp p.index i) (q ∷ qs)) is found (λ a b d le within. index_rises (get_or (q ∷ qs) a d).index (get_or (q ∷ qs) b d).index i (rises (q ∷ qs) a b d rising le within)) in
    let within : j < length (q ∷ qs) = subst (λ n. j < n) (length-map (q ∷ qs) (λ (p : Interface). p.index)) lt in
    let same : (get_or (q ∷ qs) j q).index ≡ i = sym (get_or-map (λ (p : Interface). p.index) (q ∷ qs) j q i within) ∙ at in
    by_ranked (j < k) (j ≡ k) (k < j) (nat_cmp j k) (ranked j k (nat_cmp j k) refl)
    (λ o below. less same (split.0 j q (omega arith) below))
    (λ o e. greater same (split.1 j q (omega arith) within))
    (λ o above. greater same (split.1 j q (omega arith) within))
  where
    itself : (n : ℕ) → nat_cmp n n ≡ Equal
    itself n = by_ranked (n < n) (n ≡ n) (n < n) (nat_cmp n n) (ranked n n (nat_cmp n n) refl) (λ o lt. absurd (omega arith)) (λ o e. o) (λ o gt. absurd (omega arith))

    less : {n : ℕ} → n ≡ i → nat_cmp n i ≡ Less → ⊥
    less e l = never (sym (subst (λ m. nat_cmp m i ≡ Equal) (sym e) (itself i)) ∙ l)
      where
        never : Equal ≡ Less → ⊥
        never e = cc

    greater : {n : ℕ} → n ≡ i → nat_cmp n i ≡ Greater → ⊥
    greater e l = never (sym (subst (λ m. nat_cmp m i ≡ Equal) (sym e) (itself i)) ∙ l)
      where
        never : Equal ≡ Greater → ⊥
        never e = cc

-- ---- by its index

pub at_index : (ps : List Interface) (i k : ℕ) (p : Interface) → AllPairs (λ n m. n < m) (indexes_of ps) → IsPlaceOfIndex ps i k → p ≡ get_or ps k p → Some p ≡ interface_at ps i
at_index ps i k p rising at is = ap Some is ∙ sym (here ps i k p rising at)

pub no_index : (ps : List Interface) (i : ℕ) → ¬ (Contains (indexes_of ps) i) → None ≡ interface_at ps i
no_index ps i none = by_case (interface_at ps i) (found ps i)
  where
    by_case : (r : Option Interface) → IfSome r (λ _. Contains (indexes_of ps) i) → None ≡ r
    by_case None h = refl
    by_case (Some p) h = absurd (none h)

-- ---- the next one

no_pass : {b : Bool} → not b ≡ true → b ≡ false
no_pass {b = true} e = cc
no_pass {b = false} e = refl

some_pass : {b : Bool} → not b ≡ false → b ≡ true
some_pass {b = true} e = refl
some_pass {b = false} e = cc

pub over_none : (f : Interface → Bool) (ps : List Interface) (n : ℕ) → length ps ≤ n → AllWithin (λ p. not (f p) ≡ true) ps 0 n → find f ps ≡ None
over_none f [] n le none = refl
over_none f (p ∷ ps) zero le none = absurd (omega arith)
over_none f (p ∷ ps) (suc n) le none = ap (λ b. cond b (Some p) (find f ps)) (no_pass (none zero p (omega arith) (omega arith)))
    ∙ over_none f ps n (omega arith) (λ k d low lt. none (suc k) d (omega arith) (omega arith))

pub over_first : (f : Interface → Bool) (ps : List Interface) (n : ℕ) (d : Interface) → n < length ps → AllWithin (λ p. not (f p) ≡ true) ps 0 n
    → not (f (get_or ps n d)) ≡ false → find f ps ≡ Some (get_or ps n d)
over_first f [] n d lt none here = absurd (omega arith)
over_first f (p ∷ ps) zero d lt none here = ap (λ b. cond b (Some p) (find f ps)) (some_pass here)
over_first f (p ∷ ps) (suc n) d lt none here = ap (λ b. cond b (Some p) (find f ps)) (no_pass (none zero p (omega arith) (omega arith)))
    ∙ over_first f ps n d (omega arith) (λ k e low lt. none (suc k) e (omega arith) (omega arith)) here

not_over : (a : Option ℕ) (n m : ℕ) → n ≤ m → not (is_over a m) ≡ true → not (is_over a n) ≡ true
not_over None n m le e = e
not_over (Some x) n m le e = grind (arith, nat_tests)

pub partitioned : (a : Option ℕ) (ps : List Interface) → AllPairs (λ n m. n < m) (indexes_of ps) → IsPartitionedBy (λ (p : Interface). not (is_over a p.index)) ps
partitioned a ps rising i j d le within = not_over a (get_or ps i d).index (get_or ps j d).index (rises ps i j d rising le within)
