-- A window whose oldest sample went for a newest one, and its records in an image.
use Rattle.std.proofs.Common.{◌≡◌, ◌≢◌, ℕ, zero, suc, ◌+◌, ◌-◌, ◌*◌, ◌<◌, ◌≤◌, ◌^◌, Bool, true, false, cond, Option, Some, List, [], ◌∷◌, ◌++◌, length, take, drop, get_or, inl, inr, ◌⊎◌, refl, sym, ap, subst, ◌∙◌, append_assoc, arith}
use Rattle.std.specs.Prelude.{slice_get}
use Rattle.std.specs.Cmp.{nat_cmp_total}
use Rattle.std.specs.FinSet.{nat_cmp-IsAntisymmetric, len-insert}
use Rattle.std.specs.FinSet as set
use Rattle.std.specs.List.{AllByRecursion}
use Rattle.std.specs.List.Sorted.{IsStrictlySortedBy}
use Rattle.std.specs.Int.{w16, w32, to_be_bytes}
use Rattle.std.specs.Ordering.{nat_cmp}
use Rattle.std.specs.declared.cmp.Ordering.TheVariants.{Less, Equal, Greater}
use Rattle.std.proofs.lemmas.Bool.{cases_eq, cases_lt}
use borrow.Rule.Slice.PartMut.{put_mid}
use Rattle.std.specs.List.{copy_within}
use Rattle.std.proofs.lemmas.List.{append-nil, length-append, length-take, length-drop, take_at, drop_at, drop-drop, take-append-drop, get_or_default}
use Rattle.std.proofs.lemmas.List.Elements.{All-get_or}
use Rattle.std.proofs.lemmas.List.Concat.{flat_map-append}
use Rattle.mon_sample.specs.Key.{IsSample, boots_of}
use Rattle.mon_sample.specs.Record.{octets_of}
use Rattle.mon_window.specs.Inserted.{IfAdded, IfSame, IsAddition, IsInsertion}
use Rattle.mon_window.specs.Keep.{keep, with_boots}
use Rattle.mon_window.specs.Top.{by_order, put, rising}
use Rattle.mon_window.specs.Window.{AreSizes, Samples}
use Rattle.mon_window.specs.declared.window.Inserted.{Inserted}
use Rattle.mon_window.specs.declared.window.Inserted.TheVariants.{Added, Known, TooOld}
use Rattle.mon_window.proofs.Promised.{sorted-rising, rising-insert, len-rising}
use Rattle.mon_board.specs.Instance.{instances_of}
use Rattle.mon_board.specs.Watch.{IsWatch, Watch, epoch_of, size_of}
use Rattle.mon_board.specs.Windows.{IsWhole}
use Rattle.mon_board.specs.declared.instance.Watched.{Watched}
use Rattle.mon_fields.specs.Layout.{instance_octets, samples_octets}
use Rattle.mon_saved.specs.Image.{IsEntry, SpellsImage, Two, entry_octets, entries_octets, image_octets}
use Rattle.mon_saved.specs.Written.{entry_of, entries_from}
use Rattle.mon_saved.specs.Kept.{HoldsImage, entries_on, image_with, records_on}
use Rattle.mon_fields.proofs.Promised.{length-instance, length-samples}
use Rattle.mon_saved.proofs.Loops.{entries_length, entries_sized, entries_valid, left_length, length-entry, length-image, size_is, written_valid}
use Rattle.mon_saved.proofs.Shared.{less_lt}

-- ---- what an insertion at the end put in
ends_less : (x s : ℕ) (m : List ℕ) → AllByRecursion (λ y. nat_cmp x y ≡ Less) (m ++ s ∷ []) → nat_cmp x s ≡ Less
ends_less x s [] all = all.0
ends_less x s (y ∷ m) all = ends_less x s m all.1

put_some : (s : ℕ) (ys : List ℕ) → 1 ≤ length (put nat_cmp s ys)
put_some s [] = omega arith
put_some s (y ∷ ys) =
    elim (nat_cmp s y) as (λ r. 1 ≤ length (by_order r (s ∷ y ∷ ys) (y ∷ ys) (y ∷ put nat_cmp s ys))) [
      | Less ↦ omega arith
      | Equal ↦ omega arith
      | Greater ↦ omega arith
    ]

-- the last of rising samples is not the first of more
not_first : (s y : ℕ) (ys m : List ℕ) → s ∷ y ∷ ys ≡ m ++ s ∷ [] → IsStrictlySortedBy nat_cmp (m ++ s ∷ []) → ⊥
unfolding IsStrictlySortedBy
not_first s y ys [] is sorted = let e = ap (λ (l : List ℕ). length l) is in omega (arith, e)
not_first s y ys (x ∷ m) is sorted =
    let same : s ≡ x = ap (λ (l : List ℕ). get_or l 0 0) is in
    let up = less_lt x s (ends_less x s m sorted.0) in
    omega (arith, same, up)

put_last : (s : ℕ) (o m : List ℕ) → put nat_cmp s o ≡ m ++ s ∷ [] → IsStrictlySortedBy nat_cmp (m ++ s ∷ []) → (o ≡ m) ⊎ (o ≡ m ++ s ∷ [])
unfolding IsStrictlySortedBy
put_last s [] [] is sorted = inl refl
put_last s [] (x ∷ m) is sorted = absurd (let e = ap (λ (l : List ℕ). length l) is in omega (arith, e, length-append m (s ∷ [])))
put_last s (y ∷ ys) [] is sorted =
    elim (nat_cmp s y) as (λ r. by_order r (s ∷ y ∷ ys) (y ∷ ys) (y ∷ put nat_cmp s ys) ≡ s ∷ [] → (y ∷ ys ≡ []) ⊎ (y ∷ ys ≡ s ∷ [])) [
      | Less ↦ λ e. absurd (let n = ap (λ (l : List ℕ). length l) e in omega (arith, n))
      | Equal ↦ λ e. inr e
      | Greater ↦ λ e. absurd (let n = ap (λ (l : List ℕ). length l) e in omega (arith, n, put_some s ys))
    ] is
put_last s (y ∷ ys) (x ∷ m) is sorted =
    elim (nat_cmp s y) as (λ r. by_order r (s ∷ y ∷ ys) (y ∷ ys) (y ∷ put nat_cmp s ys) ≡ x ∷ (m ++ s ∷ []) → (y ∷ ys ≡ x ∷ m) ⊎ (y ∷ ys ≡ x ∷ (m ++ s ∷ []))) [
      | Less ↦ λ e. absurd (not_first s y ys (x ∷ m) e sorted)
      | Equal ↦ λ e. inr e
      | Greater ↦ λ e. (
          let head : y ≡ x = ap (λ (l : List ℕ). get_or l 0 0) e in
          let tail : put nat_cmp s ys ≡ m ++ s ∷ [] = ap (λ (l : List ℕ). drop 1 l) e in
          elim (put_last s ys m tail sorted.1) [
            | inl all ↦ inl (λ i. head i ∷ all i)
            | inr all ↦ inr (λ i. head i ∷ all i)
          ])
    ] is

put_first : (d : ℕ) (n : List ℕ) → 1 ≤ length n → nat_cmp d (get_or n 0 0) ≡ Less → put nat_cmp d n ≡ d ∷ n
put_first d [] some less = absurd (omega (arith, some))
put_first d (y ∷ ys) some less = ap (λ r. by_order r (d ∷ y ∷ ys) (y ∷ ys) (y ∷ put nat_cmp d ys)) less

-- where a newest sample came in and one below all went, the rest was there behind that one
pub oldest_went : (old new : Samples) (s d : ℕ) (rest : List ℕ) → set.insert new d ≡ set.insert old s → set.contains old s ≡ false
    → rising new ≡ rest ++ s ∷ [] → nat_cmp d (get_or (rising new) 0 0) ≡ Less → rising old ≡ d ∷ rest
oldest_went old new s d rest same absent is below =
    let some : 1 ≤ length (rising new) = (let n = ap (λ (l : List ℕ). length l) is in omega (arith, n, length-append rest (s ∷ []))) in
    let both : put nat_cmp s (rising old) ≡ (d ∷ rest) ++ s ∷ [] =
    sym (rising-insert nat_cmp_total nat_cmp-IsAntisymmetric old s) ∙ ap (λ (a : Samples). rising a) (sym same)
    ∙ rising-insert nat_cmp_total nat_cmp-IsAntisymmetric new d ∙ put_first d (rising new) some below ∙ ap (λ (l : List ℕ). d ∷ l) is in
    let order : IsStrictlySortedBy nat_cmp ((d ∷ rest) ++ s ∷ []) =
    subst (λ (l : List ℕ). IsStrictlySortedBy nat_cmp l) (rising-insert nat_cmp_total nat_cmp-IsAntisymmetric old s ∙ both)
    (sorted-rising nat_cmp_total nat_cmp-IsAntisymmetric (set.insert old s)) in
    elim (put_last s (rising old) (d ∷ rest) both order) [
      | inl all ↦ all
      | inr more ↦ absurd (
          let longer : set.len (set.insert old s) ≡ set.len old + 1 = len-insert nat_cmp_total old s ∙ ap (λ b. cond b (set.len old) (set.len old + 1)) absent in
          let a = len-rising nat_cmp_total nat_cmp-IsAntisymmetric old in
          let b = len-rising nat_cmp_total nat_cmp-IsAntisymmetric (set.insert old s) in
          let c = ap (λ (l : List ℕ). length l) (rising-insert nat_cmp_total nat_cmp-IsAntisymmetric old s ∙ both) in
          let e = ap (λ (l : List ℕ). length l) more in
          omega (arith, longer, a, b, c, e))
    ]

-- ---- the records of one instance in an image
-- the windows agree from an instance on
entries_same : (old new : ℕ → Samples) (b : ℕ) (watched : List Watched) → ((j : ℕ) → b ≤ j → new j ≡ old j) → entries_from new b watched ≡ entries_from old b watched
entries_same old new b [] same = refl
entries_same old new b (w ∷ watched) same =
    λ i. entry_of w (rising (same b (omega arith) i)) ∷ entries_same old new (b + 1) watched (λ j le. same j (omega (arith, le))) i

module _ (old new : ℕ → Samples) (n : ℕ) (others : (j : ℕ) → j ≢ n → new j ≡ old j) (count : length (rising (new n)) ≡ length (rising (old n))) where
  abbrev rest_of : List Watched → ℕ → List ℕ
  rest_of watched i = entries_octets Two (instances_of (drop i watched)) (entries_from old (n + 1) (drop i watched))

  entries_split : (watched : List Watched) (b i : ℕ) → b + i ≡ n → i < length watched
      → (front : List ℕ) × (entries_octets Two (instances_of watched) (entries_from old b watched) ≡ front ++ (samples_octets (rising (old n)) ++ rest_of watched (suc i)))
      × (entries_octets Two (instances_of watched) (entries_from new b watched) ≡ front ++ (samples_octets (rising (new n)) ++ rest_of watched (suc i)))
  unfolding entry_octets
  entries_split [] b i at lt = absurd (omega (arith, lt))
  entries_split (w ∷ watched) b zero at lt =
      let here : b ≡ n = omega (arith, at) in
      let head : ℕ → List ℕ = λ k. w.window ∷ w.epoch ∷ (instance_octets w.instance.engine w.instance.name ++ (k ∷ [])) in
      let joins : (k : ℕ) (xs ys : List ℕ) → (w.window ∷ w.epoch ∷ (instance_octets w.instance.engine w.instance.name ++ (k ∷ xs))) ++ ys ≡ head k ++ (xs ++ ys) =
      (λ k xs ys. λ i. w.window ∷ w.epoch ∷ (append_assoc (instance_octets w.instance.engine w.instance.name) (k ∷ xs) ys ∙ sym (append_assoc (instance_octets w.instance.engine w.instance.name) (k ∷ []) (xs ++ ys))) i) in (
        head (length (rising (old n))),
        ap (λ (k : ℕ). entry_octets Two w.instance (entry_of w (rising (old k))) ++ entries_octets Two (instances_of watched) (entries_from old (k + 1) watched)) here
            ∙ joins (length (rising (old n))) (samples_octets (rising (old n))) (rest_of (w ∷ watched) 1),
        ap (λ (k : ℕ). entry_octets Two w.instance (entry_of w (rising (new k))) ++ entries_octets Two (instances_of watched) (entries_from new (k + 1) watched)) here
            ∙ ap (λ (es : List _). entry_octets Two w.instance (entry_of w (rising (new n))) ++ entries_octets Two (instances_of watched) es)
            (entries_same old new (n + 1) watched (λ j le. others j (λ e. omega (arith, le, e))))
            ∙ joins (length (rising (new n))) (samples_octets (rising (new n))) (rest_of (w ∷ watched) 1)
            ∙ ap (λ (k : ℕ). head k ++ (samples_octets (rising (new n)) ++ rest_of (w ∷ watched) 1)) count,
      )
  entries_split (w ∷ watched) b (suc i) at lt =
      let next : b + 1 + i ≡ n = omega (arith, at) in
      let later = entries_split watched (b + 1) i next (omega (arith, lt)) in
      let first = entry_octets Two w.instance (entry_of w (rising (old b))) in
      let same : new b ≡ old b = others b (λ e. omega (arith, at, e)) in (
        first ++ later.0,
        ap (λ (l : List ℕ). first ++ l) later.1 ∙ sym (append_assoc first later.0 _),
        ap (λ (a : Samples). entry_octets Two w.instance (entry_of w (rising a)) ++ entries_octets Two (instances_of watched) (entries_from new (b + 1) watched)) same
            ∙ ap (λ (l : List ℕ). first ++ l) later.2 ∙ sym (append_assoc first later.0 _),
      )

  same_count : (j : ℕ) → length (rising (new j)) ≡ length (rising (old j))
  same_count j = elim (cases_eq j n) [
    | inl is ↦ ap (λ (k : ℕ). length (rising (new k))) is ∙ count ∙ ap (λ (k : ℕ). length (rising (old k))) (sym is)
    | inr differ ↦ ap (λ (a : Samples). length (rising a)) (others j differ)
  ]

  entries_long : (watched : List Watched) (b : ℕ)
      → length (entries_octets Two (instances_of watched) (entries_from new b watched)) ≡ length (entries_octets Two (instances_of watched) (entries_from old b watched))
  entries_long [] b = refl
  entries_long (w ∷ watched) b =
      omega (
        arith,
        length-append (entry_octets Two w.instance (entry_of w (rising (new b)))) (entries_octets Two (instances_of watched) (entries_from new (b + 1) watched)),
        length-append (entry_octets Two w.instance (entry_of w (rising (old b)))) (entries_octets Two (instances_of watched) (entries_from old (b + 1) watched)),
        length-entry w.instance (entry_of w (rising (new b))),
        length-entry w.instance (entry_of w (rising (old b))),
        same_count b,
        entries_long watched (b + 1),
      )

  -- as many octets follow the same place
  records_long : (watched : List Watched) (j : ℕ) → length (records_on watched new j) ≡ length (records_on watched old j)
  records_long watched j =
      omega (
        arith,
        length-append (samples_octets (rising (new j))) (entries_on watched new (j + 1)),
        length-append (samples_octets (rising (old j))) (entries_on watched old (j + 1)),
        length-samples (rising (new j)),
        length-samples (rising (old j)),
        same_count j,
        entries_long (drop (j + 1) watched) (j + 1),
      )

  -- both images have the same octets before the records of this instance, and behind them
  images_split : (watched : List Watched) (incarnation : ℕ) → n < length watched
      → (front : List ℕ) × (image_with watched old incarnation ≡ front ++ records_on watched old n)
      × (image_with watched new incarnation ≡ front ++ (samples_octets (rising (new n)) ++ entries_on watched old (n + 1)))
  unfolding image_octets
  images_split watched incarnation lt =
      let parts = entries_split watched 0 n (omega arith) lt in
      let many = to_be_bytes w16 (length (instances_of watched)) in
      let next : suc n ≡ n + 1 = omega arith in
      let back : rest_of watched (suc n) ≡ entries_on watched old (n + 1) = ap (λ (k : ℕ). rest_of watched k) next in
      let joins : (xs ys : List ℕ) → to_be_bytes w32 incarnation ++ (many ++ (xs ++ ys)) ≡ (to_be_bytes w32 incarnation ++ (many ++ xs)) ++ ys =
      (λ xs ys. ap (λ (l : List ℕ). to_be_bytes w32 incarnation ++ l) (sym (append_assoc many xs ys)) ∙ sym (append_assoc (to_be_bytes w32 incarnation) (many ++ xs) ys)) in (
        77 ∷ 73 ∷ 2 ∷ (to_be_bytes w32 incarnation ++ (many ++ parts.0)),
        ap (λ (l : List ℕ). 77 ∷ 73 ∷ 2 ∷ (to_be_bytes w32 incarnation ++ (many ++ l))) parts.1
            ∙ ap (λ (l : List ℕ). 77 ∷ 73 ∷ 2 ∷ l) (joins parts.0 _)
            ∙ ap (λ (l : List ℕ). (77 ∷ 73 ∷ 2 ∷ (to_be_bytes w32 incarnation ++ (many ++ parts.0))) ++ (samples_octets (rising (old n)) ++ l)) back,
        ap (λ (l : List ℕ). 77 ∷ 73 ∷ 2 ∷ (to_be_bytes w32 incarnation ++ (many ++ l))) parts.2
            ∙ ap (λ (l : List ℕ). 77 ∷ 73 ∷ 2 ∷ l) (joins parts.0 _)
            ∙ ap (λ (l : List ℕ). (77 ∷ 73 ∷ 2 ∷ (to_be_bytes w32 incarnation ++ (many ++ parts.0))) ++ (samples_octets (rising (new n)) ++ l)) back,
      )

-- ---- records in octets
-- what is left after the others were moved down and the newest record was written behind them
pub moves_down : (octets front back rest : List ℕ) (oldest newest start many : ℕ) (shifted written : List ℕ)
    → octets ≡ front ++ (samples_octets (oldest ∷ rest) ++ back) → length front ≡ start → many ≡ length rest + 1
    → shifted ≡ copy_within octets (start + 21) (start + 21 * many) start → written ≡ octets_of newest
    → put_mid (start + 21 * many - 21) (start + 21 * many - (start + 21 * many - 21)) shifted written ≡ front ++ (samples_octets (rest ++ newest ∷ []) ++ back)
moves_down octets front back rest oldest newest start many shifted written whole at number is new =
    let first = octets_of oldest in
    let others = samples_octets rest in
    let one : length first ≡ 21 = (let n = length-samples (oldest ∷ []) in omega (arith, n, length-append first [])) in
    let more = length-samples rest in
    let n = start + 21 * many - (start + 21) in
    let end = start + 21 * many - 21 in
    let k = start + 21 * many - (start + 21 * many - 21) in
    let n_is : length others ≡ n = omega (arith, more, number) in
    let front_long = length-append front others in
    let end_is : length (front ++ others) ≡ end = omega (arith, more, number, at, front_long) in
    let apart : octets ≡ (front ++ first) ++ (others ++ back) =
    whole ∙ ap (λ (l : List ℕ). front ++ l) (append_assoc first others back) ∙ sym (append_assoc front first (others ++ back)) in
    let before : octets ≡ (front ++ (first ++ others)) ++ back = whole ∙ sym (append_assoc front (first ++ others) back) in
    let head : take start octets ≡ front = ap (take start) whole ∙ take_at front _ start at in
    let moved : drop (start + 21) octets ≡ others ++ back =
    ap (drop (start + 21)) apart ∙ drop_at (front ++ first) _ (start + 21) (omega (arith, length-append front first, at, one)) in
    let shift : shifted ≡ (front ++ others) ++ drop (start + n) octets =
    is ∙ (λ i. (head i ++ (ap (take n) moved ∙ take_at others back n n_is) i) ++ drop (start + n) octets) in
    let up_to : take end shifted ≡ front ++ others = ap (take end) shift ∙ take_at (front ++ others) _ end end_is in
    let from : drop end shifted ≡ drop (start + n) octets = ap (drop end) shift ∙ drop_at (front ++ others) _ end end_is in
    let last : drop k (drop end shifted) ≡ back =
    ap (drop k) from ∙ drop-drop k (start + n) octets ∙ ap (drop (start + n + k)) before
    ∙ drop_at (front ++ (first ++ others)) back (start + n + k) (omega (arith, length-append front (first ++ others), length-append first others, at, one, more, number)) in
    let records : samples_octets (rest ++ newest ∷ []) ≡ others ++ octets_of newest =
    flat_map-append octets_of rest (newest ∷ []) ∙ ap (λ (l : List ℕ). others ++ l) (append-nil (octets_of newest)) in
    (λ i. up_to i ++ (new i ++ last i)) ∙ append_assoc front others (octets_of newest ++ back)
    ∙ ap (λ (l : List ℕ). front ++ l) (sym (append_assoc others (octets_of newest) back))
    ∙ ap (λ (l : List ℕ). front ++ (l ++ back)) (sym records)

pub image_long : (watched : List Watched) (windows : ℕ → Samples) (incarnation : ℕ) → length (image_with watched windows incarnation) ≡ 9 + length (entries_on watched windows 0)
image_long watched windows incarnation = length-image (instances_of watched) (record { incarnation = incarnation; entries = entries_from windows 0 watched })

all_moved : (P : ℕ → Type 0) (d s : ℕ) (rest : List ℕ) → ((k : ℕ) → k < length (d ∷ rest) → P (get_or (d ∷ rest) k 0)) → P s
    → (k : ℕ) → k < length (rest ++ s ∷ []) → P (get_or (rest ++ s ∷ []) k 0)
all_moved P d s [] all one zero lt = one
all_moved P d s [] all one (suc k) lt = absurd (omega (arith, lt))
all_moved P d s (y ∷ rest) all one zero lt = all 1 (omega arith)
all_moved P d s (y ∷ rest) all one (suc k) lt = all_moved P y s rest (λ j le. all (suc j) (omega (arith, le))) one k (omega (arith, lt))

written_over : (len : ℕ) (after octets : List ℕ) → length after ≡ length octets → len ≡ length octets → take len (after ++ drop (length after) octets) ≡ after
written_over len after octets same is = take_at after _ len (omega (arith, same, is))

-- an image that moved on with its window
pub holds_moved : (octets begins after : List ℕ) (watched : List Watched) (old new : ℕ → Samples) (incarnation n d s len : ℕ) (rest : List ℕ)
    → HoldsImage octets begins watched old incarnation → n < length watched → ((j : ℕ) → j ≢ n → new j ≡ old j)
    → rising (old n) ≡ d ∷ rest → rising (new n) ≡ rest ++ s ∷ [] → IsSample s → len ≡ length octets → length after ≡ length octets
    → ((front back : List ℕ) → octets ≡ front ++ (samples_octets (d ∷ rest) ++ back) → length front ≡ get_or begins n 0 → after ≡ front ++ (samples_octets (rest ++ s ∷ []) ++ back))
    → HoldsImage (take len (after ++ drop (length after) octets)) begins watched new incarnation
holds_moved octets begins after watched old new incarnation n d s len rest held lt others was is one long same moved =
    let count : length (rising (new n)) ≡ length (rising (old n)) =
    (let a = ap (λ (l : List ℕ). length l) was in let b = ap (λ (l : List ℕ). length l) is in omega (arith, a, b, length-append rest (s ∷ []))) in
    let parts = images_split old new n others count watched incarnation lt in
    let back = entries_on watched old (n + 1) in
    let room = take 16 octets in
    let image = held.image ∙ parts.1 in
    let sixteen : length room ≡ 16 = (
    let a = ap (λ (l : List ℕ). length l) held.image in
    omega (arith, a, length-drop 16 octets, length-take 16 octets, image_long watched old incarnation)) in
    let whole : octets ≡ room ++ drop 16 octets = sym (take-append-drop 16 octets) in
    let split : octets ≡ (room ++ parts.0) ++ (samples_octets (d ∷ rest) ++ back) =
    whole ∙ ap (λ (l : List ℕ). room ++ l) image ∙ sym (append_assoc room parts.0 _)
    ∙ ap (λ (l : List ℕ). (room ++ parts.0) ++ (samples_octets l ++ back)) was in
    let at : length (room ++ parts.0) ≡ get_or begins n 0 = (
    let a = ap (λ (l : List ℕ). length l) split in
    let b = ap (λ (l : List ℕ). length (samples_octets l ++ back)) was in
    omega (arith, a, b, held.places n lt, length-append (room ++ parts.0) (samples_octets (d ∷ rest) ++ back))) in
    let put : after ≡ (room ++ parts.0) ++ (samples_octets (rest ++ s ∷ []) ++ back) = moved (room ++ parts.0) back split at in
    let whole_after = written_over len after octets same long in
    let now : HoldsImage after begins watched new incarnation = record {
      image =
          ap (drop 16) (put ∙ append_assoc room parts.0 _) ∙ drop_at room _ 16 sixteen
          ∙ ap (λ (l : List ℕ). parts.0 ++ (samples_octets l ++ back)) (sym is) ∙ sym parts.2;
      few = omega (arith, held.few, same);
      number = held.number;
      places = λ j le. omega (arith, held.places j le, records_long old new n others count watched j, same);
      samples = λ j k le below. elim (cases_eq j n) [
        | inl this ↦ subst (λ (i : ℕ). IsSample (get_or (rising (new i)) k 0)) (sym this)
            (subst (λ (l : List ℕ). IsSample (get_or l k 0)) (sym is)
            (all_moved IsSample d s rest (λ q lower. subst (λ (l : List ℕ). IsSample (get_or l q 0)) was
            (held.samples n q lt (let a = ap (λ (l : List ℕ). length l) was in omega (arith, a, lower)))) one k
            (let a = ap (λ (i : ℕ). length (rising (new i))) this in let b = ap (λ (l : List ℕ). length l) is in omega (arith, a, b, below))))
        | inr other ↦ subst (λ (a : Samples). IsSample (get_or (rising a) k 0)) (sym (others j other))
            (held.samples j k le (let a = ap (λ (a : Samples). length (rising a)) (others j other) in omega (arith, a, below)))
      ];
    } in
    subst (λ (l : List ℕ). HoldsImage l begins watched new incarnation) (sym whole_after) now

-- the image of windows that stayed
pub holds_same : (octets begins : List ℕ) (watched : List Watched) (old new : ℕ → Samples) (incarnation : ℕ)
    → ((j : ℕ) → new j ≡ old j) → HoldsImage octets begins watched old incarnation → HoldsImage octets begins watched new incarnation
holds_same octets begins watched old new incarnation same = subst (λ (w : ℕ → Samples). HoldsImage octets begins watched w incarnation) (sym (λ i j. same j i))

get_left : (xs ys : List ℕ) (k d : ℕ) → k < length xs → get_or (xs ++ ys) k d ≡ get_or xs k d
get_left [] ys k d lt = absurd (omega (arith, lt))
get_left (x ∷ xs) ys zero d lt = refl
get_left (x ∷ xs) ys (suc k) d lt = get_left xs ys k d (omega (arith, lt))

get_end : (xs : List ℕ) (x d : ℕ) → get_or (xs ++ x ∷ []) (length xs) d ≡ x
get_end [] x d = refl
get_end (y ∷ xs) x d = get_end xs x d

-- the last of samples that end so
pub last_is : (rest : List ℕ) (newest : ℕ) (items : List ℕ) → items ≡ rest ++ newest ∷ [] → length items ≡ length rest + 1
last_is rest newest items is = let n = ap (λ (l : List ℕ). length l) is in omega (arith, n, length-append rest (newest ∷ []))

pub newest_of : (rest : List ℕ) (newest : ℕ) (items : List ℕ) (s : ℕ) → items ≡ rest ++ newest ∷ [] → s ≡ get_or items (length items - 1) s → s ≡ newest
newest_of rest newest items s is at =
    let n = last_is rest newest items is in
    let place : length items - 1 ≡ length rest = omega (arith, n) in
    at ∙ (λ i. get_or (is i) (place i) s) ∙ get_end rest newest s

-- ---- what is put down when an image is written
pub put_down : (P : ℕ → ℕ → Type 0) (begins after : List ℕ) (i at : ℕ) → length begins ≡ i → after ≡ begins ++ at ∷ [] → ((k : ℕ) → k < i → P k (get_or begins k 0)) → P i at
    → (k : ℕ) → k < i + 1 → P k (get_or after k 0)
put_down P begins after i at number is so_far one k lt = subst (λ (l : List ℕ). P k (get_or l k 0)) (sym is) (elim (cases_lt k i) [
  | inl below ↦ subst (P k) (sym (get_left begins (at ∷ []) k 0 (omega (arith, below, number)))) (so_far k below)
  | inr above ↦ (
      let same : i ≡ k = omega (arith, above, lt) in
      let place : k ≡ length begins = omega (arith, same, number) in
      subst (λ (j : ℕ). P j (get_or (begins ++ at ∷ []) j 0)) same (subst (P i) (sym (ap (λ (j : ℕ). get_or (begins ++ at ∷ []) j 0) (same ∙ place) ∙ get_end begins at 0)) one))
])

-- a number of octets less, and those of the entry of an instance
pub entry_long : (watched : List Watched) (windows : ℕ → Samples) (i : ℕ) (w : Watched) → i < length watched → w ≡ get_or watched i w
    → length (entries_on watched windows i) ≡ 3 + length (instance_octets w.instance.engine w.instance.name) + length (records_on watched windows i)
entry_long watched windows i w lt is =
    omega (
      arith,
      left_length windows watched i w lt is,
      length-entry w.instance (entry_of w (rising (windows i))),
      length-instance w.instance.engine w.instance.name,
      length-samples (rising (windows i)),
      length-append (samples_octets (rising (windows i))) (entries_on watched windows (i + 1)),
    )

pub records_size : (watched : List Watched) (windows : ℕ → Samples) (i : ℕ) → length (records_on watched windows i) ≡ 21 * length (rising (windows i)) + length (entries_on watched windows (i + 1))
records_size watched windows i = omega (arith, length-append (samples_octets (rising (windows i))) (entries_on watched windows (i + 1)), length-samples (rising (windows i)))

-- a window of an instance holds at most 64 samples
pub few_samples : (watch : Watch) (i n : ℕ) (w : Watched) → IsWatch watch → i < length watch.instances → w ≡ get_or watch.instances i w → n ≤ size_of watch i → n ≤ 64
few_samples watch i n w is_watch lt is few =
    let sizes = subst (λ (v : Watched). AreSizes v.window v.epoch) (sym is) (All-get_or (λ (v : Watched). AreSizes v.window v.epoch) watch.instances i w lt is_watch.sized) in
    omega (arith, few, size_is watch.instances i w lt is, sizes.small)

-- ---- what is valid
at_place : (P : ℕ → Type 0) (xs : List ℕ) (k : ℕ) → AllByRecursion P xs → k < length xs → P (get_or xs k 0)
at_place P [] k all lt = absurd (omega (arith, lt))
at_place P (x ∷ xs) zero all lt = all.0
at_place P (x ∷ xs) (suc k) all lt = at_place P xs k all.1 (omega (arith, lt))

of_places : (P : ℕ → Type 0) (xs : List ℕ) → ((k : ℕ) → k < length xs → P (get_or xs k 0)) → AllByRecursion P xs
of_places P [] all = tt
of_places P (x ∷ xs) all = (all 0 (omega arith), of_places P xs (λ k lt. all (suc k) (omega (arith, lt))))

each_sample : (windows : ℕ → Samples) (b : ℕ) (watched : List Watched) → AllByRecursion IsEntry (entries_from windows b watched)
    → (n i k : ℕ) → b + i ≡ n → i < length watched → k < length (rising (windows n)) → IsSample (get_or (rising (windows n)) k 0)
each_sample windows b [] all n i k at lt below = absurd (omega (arith, lt))
each_sample windows b (w ∷ watched) all n zero k at lt below =
    let here : b ≡ n = omega (arith, at) in
    let sample : (j : ℕ) → j < length (rising (windows b)) → IsSample (get_or (rising (windows b)) j 0) = (λ j le. at_place IsSample (rising (windows b)) j all.0.samples.each le) in
    subst (λ (m : ℕ). IsSample (get_or (rising (windows m)) k 0)) here (sample k (let e = ap (λ (m : ℕ). length (rising (windows m))) here in omega (arith, e, below)))
each_sample windows b (w ∷ watched) all n (suc i) k at lt below = each_sample windows (b + 1) watched all.1 n i k (omega (arith, at)) (omega (arith, lt)) below

-- octets behind 16 others are the image that they hold
pub holds_written : (octets room begins : List ℕ) (watched : List Watched) (windows : ℕ → Samples) (incarnation : ℕ) → octets ≡ room ++ image_with watched windows incarnation → length room ≡ 16
    → length begins ≡ length watched → 16 + length (image_with watched windows 1) ≤ 484633
    → ((i : ℕ) → i < length watched → get_or begins i 0 + length (records_on watched windows i) ≡ 16 + length (image_with watched windows 1))
    → AllByRecursion IsEntry (entries_from windows 0 watched) → HoldsImage octets begins watched windows incarnation
holds_written octets room begins watched windows incarnation is sixteen number few places all = record {
  few = (
      let e = ap (λ (l : List ℕ). length l) is in
      omega (arith, few, e, sixteen, length-append room (image_with watched windows incarnation), image_long watched windows incarnation, image_long watched windows 1));
  image = ap (drop 16) is ∙ drop_at room _ 16 sixteen;
  number = number;
  places = λ i lt. (
      let e = ap (λ (l : List ℕ). length l) is in
      omega (arith, places i lt, e, sixteen, length-append room (image_with watched windows incarnation), image_long watched windows incarnation, image_long watched windows 1));
  samples = λ i k lt below. each_sample windows 0 watched all i i k (omega arith) lt below;
}

pub holds_long : (octets begins : List ℕ) (watched : List Watched) (windows : ℕ → Samples) (incarnation : ℕ) → HoldsImage octets begins watched windows incarnation → 16 ≤ length octets
holds_long octets begins watched windows incarnation held =
    let e = ap (λ (l : List ℕ). length l) held.image in
    omega (arith, e, length-drop 16 octets, image_long watched windows incarnation)

-- the image that is held spells what it is of
pub holds_spells : (keep_epoch : (epoch : ℕ → ℕ) (n m : ℕ) (a : Samples) (e : ℕ) → set.len (with_boots epoch e (keep epoch n m a)) ≤ m)
    (keep_few : (epoch : ℕ → ℕ) (n m : ℕ) (a : Samples) → set.len (keep epoch n m a) ≤ n)
    (octets begins : List ℕ) (watch : Watch) (windows : ℕ → Samples) (incarnation : ℕ) → HoldsImage octets begins watch.instances windows incarnation
    → IsWatch watch → ((i : ℕ) → IsWhole watch windows i) → 1 ≤ incarnation → incarnation < 2 ^ 32
    → SpellsImage (image_with watch.instances windows incarnation) (instances_of watch.instances) (record { incarnation = incarnation; entries = entries_from windows 0 watch.instances })
holds_spells keep_epoch keep_few octets begins watch windows incarnation held is_watch whole positive fits = record {
  version = Two;
  spelled = refl;
  valid = record {
    version = tt;
    positive = positive;
    fits = fits;
    number = entries_length windows 0 watch.instances;
    entries = entries_valid windows 0 watch.instances (λ k d lt.
        (let here : 0 + k ≡ k = omega arith in
        let size = subst (λ (a : Samples). set.len a ≤ size_of watch k) (whole k) (keep_few boots_of (size_of watch k) (epoch_of watch k) (windows k)) in
        let few : length (rising (windows k)) ≤ size_of watch k = omega (arith, size, len-rising nat_cmp_total nat_cmp-IsAntisymmetric (windows k)) in
        let there : get_or watch.instances k d ≡ get_or watch.instances k (get_or watch.instances k d) = get_or_default watch.instances k _ _ lt in
        subst (λ (j : ℕ). IsEntry (entry_of (get_or watch.instances k d) (rising (windows j)))) (sym here)
        (written_valid keep_epoch watch windows k (get_or watch.instances k d) is_watch lt there (whole k) few
        (of_places IsSample (rising (windows k)) (λ q le. held.samples k q lt le)) (sorted-rising nat_cmp_total nat_cmp-IsAntisymmetric (windows k)))));
    sizes = entries_sized windows 0 watch.instances;
  };
}

-- ---- what an insertion moved
-- the oldest sample went, and a newest came in
pub record Moves (old new : Samples) : Type 0 where
  pub oldest : ℕ
  pub newest : ℕ
  pub rest : List ℕ
  pub was : rising old ≡ oldest ∷ rest
  pub is : rising new ≡ rest ++ newest ∷ []

last_split : (xs : List ℕ) (at s : ℕ) → slice_get xs at ≡ Some s → at + 1 ≡ length xs → xs ≡ take at xs ++ s ∷ []
last_split [] at s is end = absurd (omega (arith, end))
last_split (x ∷ []) zero s is end = ap (λ (y : ℕ). y ∷ []) (some_is is)
  where
    some_is : {a b : ℕ} → (let o : Option ℕ = Some a in o ≡ Some b) → a ≡ b
    some_is e = cc
last_split (x ∷ y ∷ xs) zero s is end = absurd (omega (arith, end))
last_split (x ∷ xs) (suc at) s is end = ap (λ (l : List ℕ). x ∷ l) (last_split xs at s is (omega (arith, end)))

added_absent : (b : Bool) (how : Inserted) (at : ℕ) (dropped : Option ℕ) → how ≡ Added at dropped → (b ≡ true → how ≡ Known) → b ≡ false
added_absent false how at dropped is known = refl
added_absent true how at dropped is known = absurd (let e : Added at dropped ≡ Known = sym is ∙ known refl in cc)

pub insertion_moves : (keep : Samples → Samples) (old new : Samples) (items : List ℕ) (s : ℕ) (how : Inserted) (at : ℕ) (dropped : Option ℕ) → IsInsertion keep old new s how → how ≡ Added at dropped
    → items ≡ rising new → (at + 1 ≡ length items) × ((d : ℕ) × (dropped ≡ Some d) × (nat_cmp d (get_or items 0 0) ≡ Less)) → Moves old new
insertion_moves keep old new items s how at dropped put is same moved =
    let d = moved.1.0 in
    let end : at + 1 ≡ length (rising new) = moved.0 ∙ ap (λ (l : List ℕ). length l) same in
    let below : nat_cmp d (get_or (rising new) 0 0) ≡ Less = subst (λ (l : List ℕ). nat_cmp d (get_or l 0 0) ≡ Less) same moved.1.2 in
    let absent = added_absent (set.contains old s) how at dropped is put.known.1 in
    let added : IsAddition old new s at (Some d) = subst (λ (o : Option ℕ). IsAddition old new s at o) moved.1.1 (subst (λ (h : Inserted). IfAdded h (IsAddition old new s)) is put.added) in
    let split = last_split (rising new) at s added.place end in
    record { oldest = d; newest = s; rest = take at (rising new); was = oldest_went old new s d (take at (rising new)) added.displaced.0 absent split below; is = split }

pub insertion_stays : (keep : Samples → Samples) (old new : Samples) (s : ℕ) (how : Inserted) → IsInsertion keep old new s how → (how ≡ Known) ⊎ (how ≡ TooOld) → new ≡ old
insertion_stays keep old new s how put (inl is) = subst (λ (h : Inserted). IfSame h (new ≡ old)) is put.same
insertion_stays keep old new s how put (inr is) = subst (λ (h : Inserted). IfSame h (new ≡ old)) is put.same

pub all_stay : (old new : ℕ → Samples) (n : ℕ) → ((j : ℕ) → j ≢ n → new j ≡ old j) → new n ≡ old n → (j : ℕ) → new j ≡ old j
all_stay old new n others one j = elim (cases_eq j n) [
  | inl is ↦ ap new is ∙ one ∙ ap old (sym is)
  | inr differ ↦ others j differ
]

-- as many samples are there before and after
pub as_many : (old new : Samples) → Moves old new → length (rising old) ≡ length (rising new)
as_many old new m =
    let a = ap (λ (l : List ℕ). length l) m.was in
    let b = ap (λ (l : List ℕ). length l) m.is in
    omega (arith, a, b, length-append m.rest (m.newest ∷ []))

pub records_fit : (octets begins : List ℕ) (watched : List Watched) (windows : ℕ → Samples) (incarnation n : ℕ) → HoldsImage octets begins watched windows incarnation → n < length watched
    → get_or begins n 0 + 21 * length (rising (windows n)) ≤ length octets
records_fit octets begins watched windows incarnation n held lt = omega (arith, held.places n lt, records_size watched windows n)

pub at_index : (begins : List ℕ) (place n at : ℕ) → place ≡ n → n < length begins → at ≡ get_or begins place at → at ≡ get_or begins n 0
at_index begins place n at same lt is = is ∙ ap (λ (k : ℕ). get_or begins k at) same ∙ get_or_default begins n at 0 lt

-- of an image that is held the length
pub holds_few : (octets begins : List ℕ) (watched : List Watched) (windows : ℕ → Samples) (incarnation : ℕ) → HoldsImage octets begins watched windows incarnation → length (image_with watched windows incarnation) ≤ 484617
holds_few octets begins watched windows incarnation held =
    let e = ap (λ (l : List ℕ). length l) held.image in
    omega (arith, e, held.few, length-drop 16 octets)
