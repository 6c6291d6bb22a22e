-- The rows after one more sample.
use Rattle.std.proofs.Common.{◌≡◌, ℕ, zero, suc, ◌<◌, ◌≤◌, Bool, true, false, cond, ◌||◌, List, [], ◌∷◌, ◌++◌, length, get_or, set, map, refl, sym, ap, ◌∙◌, subst, arith}
use Rattle.std.specs.declared.cmp.Ordering.{Ordering}
use Rattle.std.specs.declared.cmp.Ordering.TheVariants.{Less, Equal, Greater}
use Rattle.std.specs.Ordering.{is_eq, eq_by_cmp, ordering_reverse}
use Rattle.std.specs.List.{AllByRecursion, HoldsAt, filter, insert, list_any}
use Rattle.std.specs.List.Sorted.{IsStrictlySortedBy}
use Rattle.std.specs.FinSet as finite
use Rattle.std.specs.FinSet.{contains, from_list, contains-from_list, from_list_push}
use Rattle.std.proofs.lemmas.Bool.{true≢false}
use Rattle.std.proofs.lemmas.Cmp.{tied_itself}
use Rattle.std.proofs.lemmas.List.{map-append, append-nil, get_or-map, length-map}
use Rattle.std.proofs.lemmas.List.Elements.{filter-append}
use Rattle.std.proofs.lemmas.List.Folds.{list_any_at}
use Rattle.std.specs.Cmp.{nat_cmp_total}
use Rattle.std.specs.FinSet.{nat_cmp-IsAntisymmetric}
use Rattle.std.specs.Ordering.{nat_cmp}
use Rattle.mon_window.specs.Window.{Window}
use Rattle.mon_window.specs.Place.{IsPlace}
use Rattle.mon_sample.specs.Key.{boots_of}
use Rattle.mon_window.specs.Keep.{keep}
use Rattle.mon_window.specs.Top.{top, rising}
use Rattle.mon_window.proofs.Promised.{insert-known, keep-top, top-all, top-insert, sorted-rising, contains-rising, from_list-rising, rising-insert}
use Rattle.mon_board.specs.declared.instance.Instance.{Instance}
use Rattle.mon_app.specs.Offer.{Offer}
use Rattle.mon_app.specs.declared.table.Row.{Row}
use Rattle.mon_board.specs.Instance.{instance_cmp}
use Rattle.mon_app.specs.Windows.{instances, samples_of, kept, row, rows_of, first_window}
use Rattle.mon_board.proofs.Promised.{instance_cmp_total, instance_cmp-IsAntisymmetric}

abbrev of_offer : Offer → Instance
of_offer x = x.instance

abbrev of_row : Row → Instance
of_row r = r.instance

abbrev same : Instance → Instance → Bool
same = eq_by_cmp instance_cmp

or_parts : (a b : Bool) → (a || b) ≡ false → (a ≡ false) × (b ≡ false)
or_parts true b e = absurd (true≢false e)
or_parts false b e = (refl, e)

is_eq-reverse : (r : Ordering) → is_eq (ordering_reverse r) ≡ is_eq r
is_eq-reverse Less = refl
is_eq-reverse Equal = refl
is_eq-reverse Greater = refl

same_back : (i j : Instance) → same i j ≡ same j i
same_back i j = ap is_eq (instance_cmp_total.antisymm i j) ∙ is_eq-reverse (instance_cmp j i)

-- ---- what is kept after one more
pub instances-push : (taken : List Offer) (x : Offer) → instances (taken ++ x ∷ []) ≡ finite.insert (instances taken) x.instance
unfolding instances
instances-push taken x = ap from_list (map-append of_offer taken (x ∷ [])) ∙ from_list_push instance_cmp_total instance_cmp-IsAntisymmetric (map of_offer taken) x.instance

samples_of-push : (taken : List Offer) (x : Offer) (i : Instance) → samples_of i (taken ++ x ∷ []) ≡ samples_of i taken ++ cond (same i x.instance) (x.sample ∷ []) []
samples_of-push taken x i =
    ap (map (λ (o : Offer). o.sample)) (filter-append (λ (o : Offer). same i o.instance) taken (x ∷ []))
    ∙ map-append (λ (o : Offer). o.sample) (filter (λ (o : Offer). same i o.instance) taken) (filter (λ (o : Offer). same i o.instance) (x ∷ []))
    ∙ ap (λ xs. samples_of i taken ++ xs) (elim (same i x.instance) as (λ t. map (λ (o : Offer). o.sample) (cond t (x ∷ []) []) ≡ cond t (x.sample ∷ []) []) [ true ↦ refl | false ↦ refl ])

-- its own window takes it, and the others stay
pub kept-push : (n : ℕ) (taken : List Offer) (x : Offer) (i : Instance)
    → kept n (taken ++ x ∷ []) i ≡ cond (same i x.instance) (top n (finite.insert (kept n taken i) x.sample)) (kept n taken i)
unfolding kept
kept-push n taken x i =
    ap (λ xs. top n (from_list xs)) (samples_of-push taken x i)
    ∙ elim (same i x.instance) as (λ t. top n (from_list {R = nat_cmp} (samples_of i taken ++ cond t (x.sample ∷ []) [])) ≡ cond t (top n (finite.insert (top n (from_list (samples_of i taken))) x.sample)) (top n (from_list (samples_of i taken)))) [
      | true ↦ ap (top n) (from_list_push nat_cmp_total nat_cmp-IsAntisymmetric (samples_of i taken) x.sample) ∙ sym (top-insert nat_cmp_total nat_cmp-IsAntisymmetric n (from_list (samples_of i taken)) x.sample)
      | false ↦ ap (λ xs. top n (from_list xs)) (append-nil (samples_of i taken))
    ]

abbrev new_row : ℕ → List Offer → Offer → Row
new_row n taken x = record { instance = x.instance; window = record { size = n; epoch = n; items = top n (finite.insert (kept n taken x.instance) x.sample) } }

row_takes : (n : ℕ) (taken : List Offer) (x : Offer) → row n (taken ++ x ∷ []) x.instance ≡ new_row n taken x
row_takes n taken x =
    let itself : same x.instance x.instance ≡ true = ap is_eq (tied_itself instance_cmp_total x.instance) in
    ap (λ w. record { instance = x.instance; window = record { size = n; epoch = n; items = w } })
    (kept-push n taken x x.instance ∙ ap (λ t. cond t (top n (finite.insert (kept n taken x.instance) x.sample)) (kept n taken x.instance)) itself)

row_stays : (n : ℕ) (taken : List Offer) (x : Offer) (j : Instance) → same j x.instance ≡ false → row n (taken ++ x ∷ []) j ≡ row n taken j
row_stays n taken x j e =
    ap (λ w. record { instance = j; window = record { size = n; epoch = n; items = w } })
    (kept-push n taken x j ∙ ap (λ t. cond t (top n (finite.insert (kept n taken j) x.sample)) (kept n taken j)) e)

-- ---- lists of rows
at_of : (P : Instance → Type 0) (xs : List Instance) (at : ℕ) (d : Instance) → AllByRecursion P xs → at < length xs → P (get_or xs at d)
at_of P [] at d all lt = absurd (omega arith)
at_of P (x ∷ xs) zero d all lt = all.0
at_of P (x ∷ xs) (suc at) d all lt = at_of P xs at d all.1 (omega arith)

module _ (g h : Instance → Row) (i : Instance) (other : (j : Instance) → same j i ≡ false → h j ≡ g j) where
  later_same : (xs : List Instance) → AllByRecursion (λ y. instance_cmp i y ≡ Less) xs → map g xs ≡ map h xs
  later_same [] b = refl
  later_same (y ∷ ys) b =
      let e : h y ≡ g y = other y (same_back y i ∙ ap is_eq b.0) in
      let rest : map g ys ≡ map h ys = later_same ys b.1 in
      λ k. sym e k ∷ rest k

  all_same : (xs : List Instance) → list_any (same i) xs ≡ false → map g xs ≡ map h xs
  all_same [] none = refl
  all_same (y ∷ ys) none =
      let parts = or_parts (same i y) (list_any (same i) ys) none in
      let e : h y ≡ g y = other y (same_back y i ∙ parts.0) in
      let rest : map g ys ≡ map h ys = all_same ys parts.1 in
      λ k. sym e k ∷ rest k

  -- one row gives way
  replaced : (xs : List Instance) (at : ℕ) (d : Instance) → IsStrictlySortedBy instance_cmp xs → at < length xs → get_or xs at d ≡ i → set (map g xs) at (h i) ≡ map h xs
  unfolding IsStrictlySortedBy
  replaced [] at d s lt e = absurd (omega arith)
  replaced (x ∷ xs) zero d s lt e =
      let below : AllByRecursion (λ y. instance_cmp i y ≡ Less) xs = subst (λ z. AllByRecursion (λ y. instance_cmp z y ≡ Less) xs) e s.0 in
      let rest : map g xs ≡ map h xs = later_same xs below in
      λ k. h (sym e k) ∷ rest k
  replaced (x ∷ xs) (suc at) d s lt e =
      let within : at < length xs = omega arith in
      let less : instance_cmp x i ≡ Less = subst (λ z. instance_cmp x z ≡ Less) e (at_of (λ y. instance_cmp x y ≡ Less) xs at d s.0 within) in
      let here : h x ≡ g x = other x (ap is_eq less) in
      let rest : set (map g xs) at (h i) ≡ map h xs = replaced xs at d s.1 within e in
      λ k. sym here k ∷ rest k

  -- one row comes between
  placed : (xs : List Instance) (at : ℕ) → at ≤ length xs → list_any (same i) xs ≡ false → insert (map g xs) at (h i) ≡ map h (insert xs at i)
  placed [] zero le none = refl
  placed [] (suc at) le none = absurd (omega arith)
  placed (x ∷ xs) zero le none = ap (λ ys. h i ∷ ys) (all_same (x ∷ xs) none)
  placed (x ∷ xs) (suc at) le none =
      let parts = or_parts (same i x) (list_any (same i) xs) none in
      let here : h x ≡ g x = other x (same_back x i ∙ parts.0) in
      let rest : insert (map g xs) at (h i) ≡ map h (insert xs at i) = placed xs at (omega arith) parts.1 in
      λ k. sym here k ∷ rest k

-- ---- the rows
pub rows-instances : (n : ℕ) (taken : List Offer) → map of_row (rows_of n taken) ≡ rising (instances taken)
unfolding rows_of
rows-instances n taken = back (rising (instances taken))
  where
    back : (xs : List Instance) → map of_row (map (row n taken) xs) ≡ xs
    back [] = refl
    back (x ∷ xs) = ap (λ ys. x ∷ ys) (back xs)

module _ (n : ℕ) (taken : List Offer) (rows : List Row) (is : rows ≡ rows_of n taken) where
  pub listed : map of_row rows ≡ rising (instances taken)
  listed = ap (map of_row) is ∙ rows-instances n taken

  pub sorted_rows : IsStrictlySortedBy instance_cmp (map of_row rows)
  sorted_rows = subst (IsStrictlySortedBy instance_cmp) (sym listed) (sorted-rising instance_cmp_total instance_cmp-IsAntisymmetric (instances taken))

  pub length-rows : length rows ≡ length (rising (instances taken))
  length-rows = sym (length-map rows of_row) ∙ ap length listed

  module _ (x : Offer) where
    abbrev i : Instance
    i = x.instance

    -- there was a row of the instance
    pub took_known : (at : ℕ) (r : Row) (w : Window) → at < length rows → HoldsAt (λ j. j ≡ x.instance) (map of_row rows) at
        → r ≡ get_or rows at r → w ≡ record r.window { items = keep boots_of r.window.size r.window.epoch (finite.insert r.window.items x.sample) }
        → set rows at (record { instance = r.instance; window = w }) ≡ rows_of n (taken ++ x ∷ [])
    unfolding rows_of
    took_known at r w lt found here after =
        let at_xs : at < length (rising (instances taken)) = omega (arith, length-rows) in
        let stands : get_or (rising (instances taken)) at i ≡ i = sym (ap (λ ys. get_or ys at i) listed) ∙ found i in
        let row_is : r ≡ row n taken i = here ∙ ap (λ rs. get_or rs at r) is ∙ get_or-map (row n taken) (rising (instances taken)) at i r at_xs ∙ ap (row n taken) stands in
        let taken_in : record { instance = r.instance; window = w } ≡ new_row n taken x =
        ap (λ v. record { instance = r.instance; window = v }) after
        ∙ ap (λ (q : Row). record { instance = q.instance; window = record q.window { items = keep boots_of q.window.size q.window.epoch (finite.insert q.window.items x.sample) } }) row_is
        ∙ ap (λ s. record { instance = i; window = record { size = n; epoch = n; items = s } }) (keep-top nat_cmp_total nat_cmp-IsAntisymmetric boots_of n (finite.insert (kept n taken i) x.sample)) in
        let made : record { instance = r.instance; window = w } ≡ row n (taken ++ x ∷ []) i = taken_in ∙ sym (row_takes n taken x) in
        let itself : same i (get_or (rising (instances taken)) at i) ≡ true = ap (same i) stands ∙ ap is_eq (tied_itself instance_cmp_total i) in
        let has : contains (instances taken) i ≡ true =
        contains-rising instance_cmp_total instance_cmp-IsAntisymmetric (instances taken) i ∙ list_any_at (same i) (rising (instances taken)) at i at_xs itself in
        let unchanged : rising (instances (taken ++ x ∷ [])) ≡ rising (instances taken) =
        ap rising (instances-push taken x ∙ insert-known instance_cmp_total instance_cmp-IsAntisymmetric (instances taken) i has) in
        ap (λ z. set rows at z) made ∙ ap (λ rs. set rs at (row n (taken ++ x ∷ []) i)) is
        ∙ replaced (row n taken) (row n (taken ++ x ∷ [])) i (row_stays n taken x) (rising (instances taken)) at i (sorted-rising instance_cmp_total instance_cmp-IsAntisymmetric (instances taken)) at_xs stands
        ∙ ap (map (row n (taken ++ x ∷ []))) (sym unchanged)

    none_of : (before : List Offer) → list_any (same i) (map of_offer before) ≡ false → samples_of i before ≡ []
    none_of [] e = refl
    none_of (o ∷ os) e =
        let parts = or_parts (same i o.instance) (list_any (same i) (map of_offer os)) e in
        ap (λ t. map (λ (p : Offer). p.sample) (cond t (o ∷ filter (λ (p : Offer). same i p.instance) os) (filter (λ (p : Offer). same i p.instance) os))) parts.0 ∙ none_of os parts.1

    kept_none : contains (instances taken) i ≡ false → kept n taken i ≡ finite.empty
    unfolding kept instances IsStrictlySortedBy
    kept_none absent =
        let none : samples_of i taken ≡ [] = none_of taken (sym (contains-from_list instance_cmp_total (map of_offer taken) i) ∙ absent) in
        ap (λ xs. top n (from_list xs)) none ∙ top-all nat_cmp_total nat_cmp-IsAntisymmetric n [] tt (omega arith)

    -- there was none
    pub took_new : (at : ℕ) (r : Row) → IsPlace instance_cmp (map of_row rows) x.instance at
        → r.instance ≡ x.instance → r.window ≡ first_window n x.sample
        → insert rows at r ≡ rows_of n (taken ++ x ∷ [])
    unfolding rows_of
    took_new at r place here fresh =
        let there : IsPlace instance_cmp (rising (instances taken)) i at = subst (λ ys. IsPlace instance_cmp ys i at) listed place in
        let absent : contains (instances taken) i ≡ false =
        ap (λ s. contains s i) (sym (from_list-rising instance_cmp_total instance_cmp-IsAntisymmetric (instances taken))) ∙ there.absent in
        let none : list_any (same i) (rising (instances taken)) ≡ false = sym (contains-rising instance_cmp_total instance_cmp-IsAntisymmetric (instances taken) i) ∙ absent in
        let filled : r.window ≡ record { size = n; epoch = n; items = top n (finite.insert (kept n taken i) x.sample) } =
        fresh ∙ ap (λ s. record { size = n; epoch = n; items = top n (finite.insert s x.sample) }) (sym (kept_none absent)) in
        let made : r ≡ row n (taken ++ x ∷ []) i = (λ k. record { instance = here k; window = filled k }) ∙ sym (row_takes n taken x) in
        let after_all : insert (rising (instances taken)) at i ≡ rising (instances (taken ++ x ∷ [])) =
        sym there.put ∙ sym (rising-insert instance_cmp_total instance_cmp-IsAntisymmetric (instances taken) i) ∙ ap rising (sym (instances-push taken x)) in
        ap (λ z. insert rows at z) made ∙ ap (λ rs. insert rs at (row n (taken ++ x ∷ []) i)) is
        ∙ placed (row n taken) (row n (taken ++ x ∷ [])) i (row_stays n taken x) (rising (instances taken)) at there.within none
        ∙ ap (map (row n (taken ++ x ∷ []))) after_all
