-- Cells in the order of their names, and the search for one.
use Rattle.std.proofs.Common.{zero, suc, ◌≡◌, ℕ, ◌-◌, ◌<◌, ◌≤◌, Bool, true, false, cond, List, [], ◌∷◌, ◌++◌, length, get_or, refl, sym, ◌∙◌, ap, subst, arith}
use Rattle.std.specs.Prelude.{Option, Some, None, Result, Ok, Err, IfSome, Contains, AllPairs, nat_eq, slice_get}
use Rattle.std.specs.declared.cmp.Ordering.{Ordering}
use Rattle.std.specs.declared.cmp.Ordering.TheVariants.{Less, Equal, Greater}
use Rattle.std.specs.Ordering.{nat_cmp, ordering_index}
use Rattle.std.specs.List.Sorted.{IsBinarySearchResult, IsSearchInRange}
use Rattle.std.proofs.lemmas.Bool.{eqb-true, ltb-true}
use Rattle.std.proofs.lemmas.Bool.Decides.{nat_tests}
use Rattle.std.proofs.lemmas.Cmp.{by_ranked, ranked}
use Rattle.std.proofs.lemmas.List.{get_or-map, length-map, map-append}
use Rattle.std.proofs.lemmas.List.Elements.{Contains-append_left, Contains-append_right, Contains-push}
use Rattle.std.proofs.lemmas.List.Quantifiers.{all_pairs_push}
use Rattle.std.proofs.lemmas.Option.{slice_get-get_or}
use Rattle.mon_survey.specs.declared.answers.Cell.{Cell}
use Rattle.mon_survey.specs.Answers.{IsPlaceOf, IsRising, cell_at, is_after, is_after_one, keys_of}

-- ---- one more

-- what comes after the last comes after all
after_all : (cells : List Cell) (key k : ℕ) (d : ℕ) → IsRising cells → is_after cells key ≡ true → k < length (keys_of cells) → get_or (keys_of cells) k d < key
after_all [] key k d rising after lt = absurd (omega arith)
after_all (c ∷ cells) key k d rising after lt =
    let all = c ∷ cells in
    let many : length (keys_of all) ≡ length all = length-map all (λ (x : Cell). x.key) in
    let last : (get_or all (length all - 1) c).key < key = last_below (slice_get-get_or all (length all - 1) c (omega arith)) in
    let there : get_or (keys_of all) (length all - 1) d ≡ (get_or all (length all - 1) c).key = get_or-map (λ (x : Cell). x.key) all (length all - 1) c d (omega arith) in
    by_ranked (k < length all - 1) (k ≡ length all - 1) (length all - 1 < k) (nat_cmp k (length all - 1)) (ranked k (length all - 1) (nat_cmp k (length all - 1)) refl)
    (λ o below. let up : get_or (keys_of all) k d < get_or (keys_of all) (length all - 1) d = rising k (length all - 1) d below (omega (arith, many)) in omega arith)
    (λ o same. let e : get_or (keys_of all) k d ≡ get_or (keys_of all) (length all - 1) d = ap (λ n. get_or (keys_of all) n d) same in omega arith)
    (λ o above. absurd (omega (arith, many)))
  where
    last_below : {x : Cell} → slice_get (c ∷ cells) (length (c ∷ cells) - 1) ≡ Some x → x.key < key
    last_below {x} e = ltb-true x.key key (sym (ap (λ (o : Option Cell). is_after_one o key) e) ∙ after)

pub pushed : (cells : List Cell) (c : Cell) → IsRising cells → is_after cells c.key ≡ true → IsRising (cells ++ c ∷ [])
pushed cells c rising after =
    subst (AllPairs (λ n m. n < m)) (sym (map-append (λ (x : Cell). x.key) cells (c ∷ [])))
    (all_pairs_push (λ n m. n < m) (keys_of cells) c.key rising (λ k d lt. after_all cells c.key k d rising after lt))

-- ---- a search

equal_is : (a b : ℕ) → nat_cmp a b ≡ Equal → a ≡ b
equal_is a b e = by_ranked (a < b) (a ≡ b) (b < a) (nat_cmp a b) (ranked a b (nat_cmp a b) refl) (λ r lt. absurd (less r e)) (λ r same. same) (λ r gt. absurd (greater r e))
  where
    less : {o : Ordering} → o ≡ Less → o ≡ Equal → ⊥
    less p q = cc

    greater : {o : Ordering} → o ≡ Greater → o ≡ Equal → ⊥
    greater p q = cc

pub search_found : (ps : List Cell) (i k : ℕ) (r : Result ℕ ℕ) → IsBinarySearchResult (λ (p : Cell). nat_cmp p.key i) ps r → IsSearchInRange r (length ps)
    → r ≡ Ok k → IsPlaceOf ps i k
search_found ps i k r found within is =
    let at = subst (IsBinarySearchResult (λ (p : Cell). nat_cmp p.key i) ps) is found in
    let low = subst (λ s. IsSearchInRange s (length ps)) is within in
    record { within = low; is = λ d. equal_is (get_or ps k d).key i (at d) }

rises : (ps : List Cell) (i j : ℕ) (d : Cell) → AllPairs (λ n m. n < m) (keys_of ps) → i ≤ j → j < length ps → (get_or ps i d).key ≤ (get_or ps j d).key
rises ps i j d rising le within = by_cases (nat_cmp i j) refl
  where
    up : i < j → (get_or ps i d).key ≤ (get_or ps j d).key
    up lt =
        let over : get_or (keys_of ps) i 0 < get_or (keys_of ps) j 0 = rising i j 0 lt (subst (λ n. j < n) (sym (length-map ps (λ (p : Cell). p.key))) within) in
        let a : get_or (keys_of ps) i 0 ≡ (get_or ps i d).key = get_or-map (λ (p : Cell). p.key) ps i d 0 (omega arith) in
        let b : get_or (keys_of ps) j 0 ≡ (get_or ps j d).key = get_or-map (λ (p : Cell). p.key) ps j d 0 within in
        omega arith

    by_cases : (o : Ordering) → nat_cmp i j ≡ o → (get_or ps i d).key ≤ (get_or ps j d).key
    by_cases o e = by_ranked (i < j) (i ≡ j) (j < i) (nat_cmp i j) (ranked i j (nat_cmp i j) refl) (λ r lt. up lt)
        (λ r same. let s : (get_or ps i d).key ≡ (get_or ps j d).key = ap (λ n. (get_or ps n d).key) same in omega arith) (λ r gt. absurd (omega arith))

key_rises : (a b i : ℕ) → a ≤ b → ordering_index (nat_cmp a i) ≤ ordering_index (nat_cmp b i)
key_rises a b i le = by_ranked (a < i) (a ≡ i) (i < a) (nat_cmp a i) (ranked a i (nat_cmp a i) refl)
    (λ r lt. subst (λ o. ordering_index o ≤ ordering_index (nat_cmp b i)) (sym r) (omega arith))
    (λ r same. by_ranked (b < i) (b ≡ i) (i < b) (nat_cmp b i) (ranked b i (nat_cmp b i) refl) (λ q lt. absurd (omega arith)) (λ q e. two r q (omega arith)) (λ q gt. two r q (omega arith)))
    (λ r gt. by_ranked (b < i) (b ≡ i) (i < b) (nat_cmp b i) (ranked b i (nat_cmp b i) refl) (λ q lt. absurd (omega arith)) (λ q e. absurd (omega arith)) (λ q more. two r q (omega arith)))
  where
    two : {o p : Ordering} → nat_cmp a i ≡ o → nat_cmp b i ≡ p → ordering_index o ≤ ordering_index p → ordering_index (nat_cmp a i) ≤ ordering_index (nat_cmp b i)
    two e f le = rw (e, f) le

pub search_none : (ps : List Cell) (i k : ℕ) (r : Result ℕ ℕ) → AllPairs (λ n m. n < m) (keys_of ps) → IsBinarySearchResult (λ (p : Cell). nat_cmp p.key i) ps r
    → r ≡ Err k → Contains (keys_of ps) i → ⊥
search_none [] i k r rising found is (j, lt, at) = omega arith
search_none (q ∷ qs) i k r rising found is (j, lt, at) =
    let split = subst (IsBinarySearchResult (λ (p : Cell). nat_cmp p.key i) (q ∷ qs)) is found (λ a b d le within. key_rises (get_or (q ∷ qs) a d).key (get_or (q ∷ qs) b d).key i (rises (q ∷ qs) a b d rising le within)) in
    let within : j < length (q ∷ qs) = subst (λ n. j < n) (length-map (q ∷ qs) (λ (p : Cell). p.key)) lt in
    let same : (get_or (q ∷ qs) j q).key ≡ i = sym (get_or-map (λ (p : Cell). p.key) (q ∷ qs) j q i within) ∙ at in
    by_ranked (j < k) (j ≡ k) (k < j) (nat_cmp j k) (ranked j k (nat_cmp j k) refl)
    (λ o below. less same (split.0 j q (omega arith) below))
    (λ o e. greater same (split.1 j q (omega arith) within))
    (λ o above. greater same (split.1 j q (omega arith) within))
  where
    itself : (n : ℕ) → nat_cmp n n ≡ Equal
    itself n = by_ranked (n < n) (n ≡ n) (n < n) (nat_cmp n n) (ranked n n (nat_cmp n n) refl) (λ o lt. absurd (omega arith)) (λ o e. o) (λ o gt. absurd (omega arith))

    less : {n : ℕ} → n ≡ i → nat_cmp n i ≡ Less → ⊥
    less e l = never (sym (subst (λ m. nat_cmp m i ≡ Equal) (sym e) (itself i)) ∙ l)
      where
        never : Equal ≡ Less → ⊥
        never e = cc

    greater : {n : ℕ} → n ≡ i → nat_cmp n i ≡ Greater → ⊥
    greater e l = never (sym (subst (λ m. nat_cmp m i ≡ Equal) (sym e) (itself i)) ∙ l)
      where
        never : Equal ≡ Greater → ⊥
        never e = cc

-- ---- by its key

itself_true : (n : ℕ) → nat_eq n n ≡ true
itself_true n = grind (arith, nat_tests)

other_key : (n i : ℕ) → n < i → nat_eq n i ≡ false
other_key n i lt = grind (arith, nat_tests)

tail_rises : (x : ℕ) (xs : List ℕ) → AllPairs (λ i j. i < j) (x ∷ xs) → AllPairs (λ i j. i < j) xs
tail_rises x xs all = λ i j d lt within. all (suc i) (suc j) d (omega arith) (omega arith)

over_head : (p : Cell) (ps : List Cell) (i k : ℕ) → AllPairs (λ i j. i < j) (keys_of (p ∷ ps)) → IsPlaceOf ps i k → p.key < i
over_head p ps i k rising at =
    let within : k < length (keys_of ps) = subst (λ n. k < n) (sym (length-map ps (λ (q : Cell). q.key))) at.within in
    let over : p.key < get_or (keys_of ps) k 0 = rising zero (suc k) 0 (omega arith) (omega arith) in
    subst (λ n. p.key < n) (get_or-map (λ (q : Cell). q.key) ps k p 0 at.within ∙ at.is p) over

here : (ps : List Cell) (i k : ℕ) (d : Cell) → AllPairs (λ i j. i < j) (keys_of ps) → IsPlaceOf ps i k → cell_at ps i ≡ Some (get_or ps k d)
here [] i k d rising at = absurd (omega (arith, at.within))
here (p ∷ ps) i zero d rising at = ap (λ b. cond b (Some p) (cell_at ps i)) (ap (λ n. nat_eq n i) (at.is p) ∙ itself_true i)
here (p ∷ ps) i (suc k) d rising at =
    let rest : IsPlaceOf ps i k = record { within = omega (arith, at.within); is = at.is } in
    ap (λ b. cond b (Some p) (cell_at ps i)) (other_key p.key i (over_head p ps i k rising rest)) ∙ here ps i k d (tail_rises p.key (keys_of ps) rising) rest

at_head : {X : Type 0} (x : X) (xs : List X) → Contains (x ∷ xs) x
at_head x xs = Contains-append_left (x ∷ []) xs x (Contains-push [] x)

in_tail : {X : Type 0} (x y : X) (xs : List X) → Contains xs y → Contains (x ∷ xs) y
in_tail x y xs at = Contains-append_right (x ∷ []) xs y at

found : (ps : List Cell) (i : ℕ) → IfSome (cell_at ps i) (λ _. Contains (keys_of ps) i)
found [] i = tt
found (p ∷ ps) i = by_test (nat_eq p.key i) refl (found ps i)
  where
    later : (r : Option Cell) → IfSome r (λ _. Contains (keys_of ps) i) → IfSome r (λ _. Contains (p.key ∷ keys_of ps) i)
    later None h = tt
    later (Some q) h = in_tail p.key i (keys_of ps) h

    by_test : (b : Bool) → nat_eq p.key i ≡ b → IfSome (cell_at ps i) (λ _. Contains (keys_of ps) i)
        → IfSome (cond b (Some p) (cell_at ps i)) (λ _. Contains (p.key ∷ keys_of ps) i)
    by_test true e rest = subst (Contains (p.key ∷ keys_of ps)) (eqb-true p.key i e) (at_head p.key (keys_of ps))
    by_test false e rest = later (cell_at ps i) rest

pub at_index : (ps : List Cell) (i k : ℕ) (p : Cell) → AllPairs (λ n m. n < m) (keys_of ps) → IsPlaceOf ps i k → p ≡ get_or ps k p → Some p ≡ cell_at ps i
at_index ps i k p rising at is = ap Some is ∙ sym (here ps i k p rising at)

pub no_index : (ps : List Cell) (i : ℕ) → ¬ (Contains (keys_of ps) i) → None ≡ cell_at ps i
no_index ps i none = by_case (cell_at ps i) (found ps i)
  where
    by_case : (r : Option Cell) → IfSome r (λ _. Contains (keys_of ps) i) → None ≡ r
    by_case None h = refl
    by_case (Some p) h = absurd (none h)
