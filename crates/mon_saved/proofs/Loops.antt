-- What loops over the instances keep.
use Rattle.std.proofs.Common.{◌≡◌, ℕ, zero, suc, ◌+◌, ◌*◌, ◌<◌, ◌≤◌, false, List, [], ◌∷◌, ◌++◌, length, map, drop, get_or, Result, Ok, Err, inl, inr, refl, sym, ap, subst, ◌∙◌, append_assoc, arith}
use Rattle.std.specs.Prelude.{◌==◌, nat_eq}
use Rattle.std.specs.Cmp.{nat_cmp_total}
use Rattle.std.specs.FinSet.{nat_cmp-IsAntisymmetric}
use Rattle.std.specs.FinSet as set
use Rattle.std.specs.List.{AllByRecursion, filter}
use Rattle.std.specs.List.Sorted.{IsStrictlySortedBy}
use Rattle.std.specs.Ordering.{nat_cmp}
use Rattle.std.specs.Int.{w16, w32, to_be_bytes}
use Rattle.std.proofs.lemmas.Bool.{ne_eqb, cases_lt}
use Rattle.std.proofs.lemmas.List.{append-nil, length-append, get_or_default}
use Rattle.std.proofs.lemmas.List.Elements.{All-get_or}
use Rattle.std.proofs.Math.Seq.{drop-cons}
use Rattle.std.proofs.Math.ListN.{drop_of_length-le}
use Rattle.mon_oid.specs.Steps.{◌>>=◌}
use Rattle.mon_sample.specs.Key.{boots_of, IsSample}
use Rattle.mon_window.specs.Keep.{keep, with_boots}
use Rattle.mon_window.specs.Window.{Samples, AreSizes}
use Rattle.mon_window.specs.Top.{rising}
use Rattle.mon_window.proofs.Promised.{rising-retain, len-rising}
use Rattle.mon_board.specs.declared.instance.Instance.{Instance}
use Rattle.mon_board.specs.declared.instance.Watched.{Watched}
use Rattle.mon_board.specs.Instance.{instances_of}
use Rattle.mon_board.specs.Watch.{Watch, IsWatch, size_of}
use Rattle.mon_board.specs.Windows.{IsWhole}
use Rattle.mon_fields.specs.Layout.{instance_octets, samples_octets}
use Rattle.mon_fields.specs.Reading.{with_front}
use Rattle.mon_fields.proofs.Promised.{length-instance, length-samples}
use Rattle.mon_saved.specs.declared.fault.ImageFault.{ImageFault}
use Rattle.mon_saved.specs.declared.fault.ImageFault.TheVariants.{OutOfMemory, Truncated, BadVersion, OtherWatch, BadImage}
use Rattle.mon_saved.specs.declared.image.Entry.{Entry}
use Rattle.mon_saved.specs.declared.image.Image.{Image}
use Rattle.mon_saved.specs.Image.{Two, entry_octets, entries_octets, image_octets, of_boots, IsEntry, HasSizes}
use Rattle.mon_saved.specs.Reading.{Fails, expected_at, numbers_are, entry_at, entries_at, all_entries}
use Rattle.mon_saved.specs.Written.{entry_of, entries_from}

drop_step : {A : Type 0} (xs : List A) (i : ℕ) (x : A) → i < length xs → x ≡ get_or xs i x → drop i xs ≡ x ∷ drop (i + 1) xs
drop_step xs i x lt is =
    let next : suc i ≡ i + 1 = omega arith in
    drop-cons xs i x lt ∙ (λ k. sym is k ∷ drop (next k) xs)

-- ---- numbers
pub numbers_step : (numbers : List ℕ) (i d : ℕ) (octets : List ℕ) → i < length numbers
    → numbers_are (drop i numbers) octets ≡ (expected_at (to_be_bytes w32 (get_or numbers i d)) octets >>= numbers_are (drop (i + 1) numbers))
unfolding numbers_are
numbers_step numbers i d octets lt =
    let next : suc i ≡ i + 1 = omega arith in
    ap (λ (v : List ℕ). numbers_are v octets) (drop-cons numbers i d lt ∙ (λ k. get_or numbers i d ∷ drop (next k) numbers))

pub numbers_done : (numbers : List ℕ) (i : ℕ) (octets : List ℕ) → length numbers ≤ i → numbers_are (drop i numbers) octets ≡ Ok octets
unfolding numbers_are
numbers_done numbers i octets le = ap (λ (v : List ℕ). numbers_are v octets) (drop_of_length-le numbers {i = i} le)

-- a first step that failed
pub step_fails : {A B : Type 0} (e : ImageFault) (r : Result A ImageFault) (f : A → Result B ImageFault) (total : Result B ImageFault) → (r >>= f) ≡ total → Fails e r → Fails e total
step_fails OutOfMemory r f total is h = tt
step_fails Truncated r f total is h = sym is ∙ rw h refl
step_fails BadVersion r f total is h = sym is ∙ rw h refl
step_fails OtherWatch r f total is h = sym is ∙ rw h refl
step_fails BadImage r f total is h = sym is ∙ rw h refl

pub step_goes : {A B : Type 0} (r : Result A ImageFault) (f : A → Result B ImageFault) (total : Result B ImageFault) → (r >>= f) ≡ total → (x : A) → r ≡ Ok x → f x ≡ total
step_goes r f total is x h =
    let one : (r >>= f) ≡ f x = rw h refl in
    sym one ∙ is

-- ---- entries
pub entries_step : (window : ℕ) (watched : List Watched) (i : ℕ) (w : Watched) (octets : List ℕ) → i < length watched → w ≡ get_or watched i w
    → entries_at window (instances_of (drop i watched)) octets
    ≡ (entry_at window w.instance octets >>= λ e. entries_at window (instances_of (drop (i + 1) watched)) e.1 >>= λ es. Ok (e.0 ∷ es.0, es.1))
unfolding entries_at
entries_step window watched i w octets lt is = ap (λ (v : List Watched). entries_at window (instances_of v) octets) (drop_step watched i w lt is)

pub entries_done : (window : ℕ) (watched : List Watched) (i : ℕ) (octets : List ℕ) → length watched ≤ i → entries_at window (instances_of (drop i watched)) octets ≡ Ok ([], octets)
unfolding entries_at
entries_done window watched i octets le = ap (λ (v : List Watched). entries_at window (instances_of v) octets) (drop_of_length-le watched {i = i} le)

regroup : (front : List Entry) (x : Entry) (r : Result (List Entry × List ℕ) ImageFault) → with_front front (r >>= λ xs. Ok (x ∷ xs.0, xs.1)) ≡ with_front (front ++ x ∷ []) r
regroup front x (Ok xs) = ap (λ (ys : List Entry). Ok (ys, xs.1)) (sym (append_assoc front (x ∷ []) xs.0))
regroup front x (Err e) = refl

pub entries_more : (front : List Entry) (window : ℕ) (watched : List Watched) (i : ℕ) (w : Watched) (octets : List ℕ) (total : Result (List Entry × List ℕ) ImageFault) → i < length watched → w ≡ get_or watched i w
    → with_front front (entries_at window (instances_of (drop i watched)) octets) ≡ total
    → (e : Entry) (after : List ℕ) → entry_at window w.instance octets ≡ Ok (e, after) → with_front (front ++ e ∷ []) (entries_at window (instances_of (drop (i + 1) watched)) after) ≡ total
entries_more front window watched i w octets total lt is so_far e after h =
    let one : with_front front (entries_at window (instances_of (drop i watched)) octets) ≡ with_front (front ++ e ∷ []) (entries_at window (instances_of (drop (i + 1) watched)) after) =
    rw (entries_step window watched i w octets lt is, h) (regroup front e (entries_at window (instances_of (drop (i + 1) watched)) after)) in
    sym one ∙ so_far

pub entries_fail : (front : List Entry) (window : ℕ) (watched : List Watched) (i : ℕ) (w : Watched) (octets all : List ℕ) → i < length watched → w ≡ get_or watched i w
    → with_front front (entries_at window (instances_of (drop i watched)) octets) ≡ entries_at window (instances_of watched) all
    → (e : ImageFault) → Fails e (entry_at window w.instance octets) → Fails e (all_entries window (instances_of watched) all)
unfolding all_entries
entries_fail front window watched i w octets all lt is so_far OutOfMemory h = tt
entries_fail front window watched i w octets all lt is so_far Truncated h = rw (← so_far, entries_step window watched i w octets lt is, h) refl
entries_fail front window watched i w octets all lt is so_far BadVersion h = rw (← so_far, entries_step window watched i w octets lt is, h) refl
entries_fail front window watched i w octets all lt is so_far OtherWatch h = rw (← so_far, entries_step window watched i w octets lt is, h) refl
entries_fail front window watched i w octets all lt is so_far BadImage h = rw (← so_far, entries_step window watched i w octets lt is, h) refl

-- all entries were read
pub entries_read : (front : List Entry) (window : ℕ) (watched : List Watched) (i : ℕ) (octets all : List ℕ) → length watched ≤ i
    → with_front front (entries_at window (instances_of (drop i watched)) octets) ≡ entries_at window (instances_of watched) all → entries_at window (instances_of watched) all ≡ Ok (front, octets)
entries_read front window watched i octets all le so_far =
    sym so_far ∙ ap (with_front front) (entries_done window watched i octets le) ∙ ap (λ (v : List Entry). Ok (v, octets)) (append-nil front)

pub none_left : (window : ℕ) (instances : List Instance) (all : List ℕ) (entries : List Entry) (rest : List ℕ) → entries_at window instances all ≡ Ok (entries, rest) → length rest ≡ 0 → all_entries window instances all ≡ Ok entries
unfolding all_entries
none_left window instances all entries rest is none = rw (is, none) refl

pub some_left : (window : ℕ) (instances : List Instance) (all : List ℕ) (entries : List Entry) (rest : List ℕ) → entries_at window instances all ≡ Ok (entries, rest) → 0 < length rest → all_entries window instances all ≡ Err BadImage
unfolding all_entries
some_left window instances all entries [] is some = absurd (omega (arith, some))
some_left window instances all entries (b ∷ rest) is some = (
    let differ : (length (b ∷ rest) == 0) ≡ false = ne_eqb (length (b ∷ rest)) 0 (λ e. omega (arith, e)) in
    rw (is, differ) refl)

-- ---- writing: what is left from an instance on
abbrev pub left : (ℕ → Samples) → List Watched → ℕ → List ℕ
left windows watched i = entries_octets Two (instances_of (drop i watched)) (entries_from windows i (drop i watched))

pub left_step : (windows : ℕ → Samples) (watched : List Watched) (i : ℕ) (w : Watched) → i < length watched → w ≡ get_or watched i w
    → left windows watched i ≡ entry_octets Two w.instance (entry_of w (rising (windows i))) ++ left windows watched (i + 1)
left_step windows watched i w lt is =
    ap (λ (v : List Watched). entries_octets Two (instances_of v) (entries_from windows i v)) (drop_step watched i w lt is)

pub left_none : (windows : ℕ → Samples) (watched : List Watched) (i : ℕ) → length watched ≤ i → left windows watched i ≡ []
left_none windows watched i le = ap (λ (v : List Watched). entries_octets Two (instances_of v) (entries_from windows i v)) (drop_of_length-le watched {i = i} le)

pub left_length : (windows : ℕ → Samples) (watched : List Watched) (i : ℕ) (w : Watched) → i < length watched → w ≡ get_or watched i w
    → length (left windows watched i) ≡ length (entry_octets Two w.instance (entry_of w (rising (windows i)))) + length (left windows watched (i + 1))
left_length windows watched i w lt is =
    ap (λ (v : List ℕ). length v) (left_step windows watched i w lt is) ∙ length-append (entry_octets Two w.instance (entry_of w (rising (windows i)))) (left windows watched (i + 1))

-- a loop's step of writing
pub one_written : (windows : ℕ → Samples) (watched : List Watched) (i : ℕ) (w : Watched) (before out after : List ℕ) → i < length watched → w ≡ get_or watched i w
    → out ++ left windows watched i ≡ before → after ≡ out ++ entry_octets Two w.instance (entry_of w (rising (windows i))) → after ++ left windows watched (i + 1) ≡ before
one_written windows watched i w before out after lt is so_far e =
    ap (λ (v : List ℕ). v ++ left windows watched (i + 1)) e ∙ append_assoc out (entry_octets Two w.instance (entry_of w (rising (windows i)))) (left windows watched (i + 1))
    ∙ ap (λ (v : List ℕ). out ++ v) (sym (left_step windows watched i w lt is)) ∙ so_far

pub length-entry : (i : Instance) (e : Entry) → length (entry_octets Two i e) ≡ 5 + length i.engine + 4 * length i.name + 21 * length e.samples
unfolding entry_octets
length-entry i e =
    omega (arith, length-append (instance_octets i.engine i.name) (length e.samples ∷ samples_octets e.samples), length-instance i.engine i.name, length-samples e.samples)

pub length-image : (instances : List Instance) (image : Image) → length (image_octets Two instances image) ≡ 9 + length (entries_octets Two instances image.entries)
unfolding image_octets
length-image instances image =
    omega (
      arith,
      length-append (to_be_bytes w32 image.incarnation) (to_be_bytes w16 (length instances) ++ entries_octets Two instances image.entries),
      length-append (to_be_bytes w16 (length instances)) (entries_octets Two instances image.entries),
    )

-- ---- what is written is valid
-- the sizes of the window of an instance are those that the watch has of it
pub size_is : (watched : List Watched) (i : ℕ) (w : Watched) → i < length watched → w ≡ get_or watched i w → get_or (map (λ v. v.window) watched) i 0 ≡ w.window
size_is [] i w lt is = absurd (omega (arith, lt))
size_is (v ∷ watched) zero w lt is = ap (λ (u : Watched). u.window) (sym is)
size_is (v ∷ watched) (suc i) w lt is = size_is watched i w (omega (arith, lt)) is

pub epoch_is : (watched : List Watched) (i : ℕ) (w : Watched) → i < length watched → w ≡ get_or watched i w → get_or (map (λ v. v.epoch) watched) i 0 ≡ w.epoch
epoch_is [] i w lt is = absurd (omega (arith, lt))
epoch_is (v ∷ watched) zero w lt is = ap (λ (u : Watched). u.epoch) (sym is)
epoch_is (v ∷ watched) (suc i) w lt is = epoch_is watched i w (omega (arith, lt)) is

with_boots_rising : (a : Samples) (boots : ℕ) → rising (with_boots boots_of boots a) ≡ filter (λ s. nat_eq (boots_of s) boots) (rising a)
unfolding with_boots
with_boots_rising a boots = rising-retain nat_cmp_total nat_cmp-IsAntisymmetric a (λ s. nat_eq (boots_of s) boots)

-- the samples of a window that holds no more than it keeps are epochs as it keeps them
pub window_fits_epoch : (keep_epoch : (epoch : ℕ → ℕ) (n m : ℕ) (a : Samples) (e : ℕ) → set.len (with_boots epoch e (keep epoch n m a)) ≤ m)
    (n m : ℕ) (a : Samples) → keep boots_of n m a ≡ a → (boots : ℕ) → of_boots boots (rising a) ≤ m
window_fits_epoch keep_epoch n m a whole boots =
    let same : with_boots boots_of boots (keep boots_of n m a) ≡ with_boots boots_of boots a = ap (with_boots boots_of boots) whole in
    omega (arith, ap (λ (s : Samples). set.len s) same, len-rising nat_cmp_total nat_cmp-IsAntisymmetric (with_boots boots_of boots a), ap (λ (v : List ℕ). length v) (with_boots_rising a boots), keep_epoch boots_of n m a boots)

pub entry_valid : (w : Watched) (samples : List ℕ) → AreSizes w.window w.epoch → length samples ≤ w.window → AllByRecursion IsSample samples → IsStrictlySortedBy nat_cmp samples
    → ((boots : ℕ) → of_boots boots samples ≤ w.epoch) → IsEntry (entry_of w samples)
entry_valid w samples sizes few each sorted epochs = record {
  small = sizes.small;
  part = sizes.within;
  some = sizes.positive;
  samples = record { each = each; rising = sorted };
  few = few;
  epochs = epochs;
}

pub written_valid : (keep_epoch : (epoch : ℕ → ℕ) (n m : ℕ) (a : Samples) (e : ℕ) → set.len (with_boots epoch e (keep epoch n m a)) ≤ m)
    (watch : Watch) (windows : ℕ → Samples) (i : ℕ) (w : Watched) → IsWatch watch → i < length watch.instances → w ≡ get_or watch.instances i w → IsWhole watch windows i
    → length (rising (windows i)) ≤ size_of watch i → AllByRecursion IsSample (rising (windows i)) → IsStrictlySortedBy nat_cmp (rising (windows i)) → IsEntry (entry_of w (rising (windows i)))
written_valid keep_epoch watch windows i w is_watch lt is whole few each sorted =
    let size = size_is watch.instances i w lt is in
    let epoch = epoch_is watch.instances i w lt is in
    let sizes = subst (λ (v : Watched). AreSizes v.window v.epoch) (sym is) (All-get_or (λ (v : Watched). AreSizes v.window v.epoch) watch.instances i w lt is_watch.sized) in
    let kept : keep boots_of w.window w.epoch (windows i) ≡ windows i = subst (λ (n : ℕ). keep boots_of n w.epoch (windows i) ≡ windows i) size (subst (λ (m : ℕ). keep boots_of (size_of watch i) m (windows i) ≡ windows i) epoch whole) in
    entry_valid w (rising (windows i)) sizes (omega (arith, few, size)) each sorted (window_fits_epoch keep_epoch w.window w.epoch (windows i) kept)

-- the entries of all instances, by their numbers
pub entries_valid : (windows : ℕ → Samples) (i : ℕ) (watched : List Watched) → ((k : ℕ) (d : Watched) → k < length watched → IsEntry (entry_of (get_or watched k d) (rising (windows (i + k)))))
    → AllByRecursion IsEntry (entries_from windows i watched)
entries_valid windows i [] all = tt
entries_valid windows i (w ∷ watched) all =
    let here : i + 0 ≡ i = omega arith in (
      subst (λ (k : ℕ). IsEntry (entry_of w (rising (windows k)))) here (all 0 w (omega arith)),
      entries_valid windows (i + 1) watched (λ k d lt. (let next : i + suc k ≡ i + 1 + k = omega arith in subst (λ (j : ℕ). IsEntry (entry_of (get_or watched k d) (rising (windows j)))) next (all (suc k) d (omega (arith, lt))))),
    )

pub one_more_valid : (windows : ℕ → Samples) (watched : List Watched) (i : ℕ) (w : Watched) → i < length watched → w ≡ get_or watched i w
    → ((k : ℕ) (d : Watched) → k < i → IsEntry (entry_of (get_or watched k d) (rising (windows k)))) → IsEntry (entry_of w (rising (windows i)))
    → (k : ℕ) (d : Watched) → k < i + 1 → IsEntry (entry_of (get_or watched k d) (rising (windows k)))
one_more_valid windows watched i w in_range is all one k d lt = elim (cases_lt k i) [
  | inl below ↦ all k d below
  | inr above ↦ (
      let same : i ≡ k = omega (arith, above, lt) in
      let there : w ≡ get_or watched i d = is ∙ get_or_default watched i w d in_range in
      subst (λ (j : ℕ). IsEntry (entry_of (get_or watched j d) (rising (windows j)))) same (subst (λ (v : Watched). IsEntry (entry_of v (rising (windows i)))) there one))
]

pub entries_sized : (windows : ℕ → Samples) (i : ℕ) (watched : List Watched) → AllByRecursion (HasSizes Two) (entries_from windows i watched)
entries_sized windows i [] = tt
entries_sized windows i (w ∷ watched) = (tt, entries_sized windows (i + 1) watched)

pub entries_length : (windows : ℕ → Samples) (i : ℕ) (watched : List Watched) → length (entries_from windows i watched) ≡ length (instances_of watched)
entries_length windows i [] = refl
entries_length windows i (w ∷ watched) = ap (λ (k : ℕ). suc k) (entries_length windows (i + 1) watched)
