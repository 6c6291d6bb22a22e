-- The samples of an image by instance.
use Rattle.std.proofs.Common.{◌≡◌, ℕ, ◌+◌, ◌<◌, ◌≤◌, List, [], ◌∷◌, ◌++◌, length, map, refl, sym, ap, subst, ◌∙◌, inl, inr, arith}
use Rattle.std.specs.Cmp.{nat_cmp_total}
use Rattle.std.specs.FinSet.{nat_cmp-IsAntisymmetric}
use Rattle.std.specs.FinSet as set
use Rattle.std.specs.Ordering.{nat_cmp}
use Rattle.std.proofs.lemmas.Bool.{cases_eq, cases_lt, eq-eqb, ne_eqb}
use Rattle.std.proofs.lemmas.List.{append-nil, length-map}
use Rattle.std.proofs.Math.ListN.{get_or-eq_default}
use Rattle.mon_sample.specs.Key.{boots_of}
use Rattle.mon_window.specs.Top.{rising}
use Rattle.mon_window.specs.Window.{Samples}
use Rattle.mon_window.proofs.Promised.{from_list-rising, len-keep, len-rising}
use Rattle.mon_board.specs.Board.{Board, window_of}
use Rattle.mon_board.specs.Instance.{instances_of}
use Rattle.mon_board.specs.Watch.{Watch, size_of, epoch_of}
use Rattle.mon_board.specs.Windows.{IsWhole, paired, samples_of, set_of, window, kept_by}
use Rattle.mon_board.specs.declared.instance.Instance.{Instance}
use Rattle.mon_board.specs.declared.instance.Watched.{Watched}
use Rattle.mon_saved.specs.declared.image.Entry.{Entry}
use Rattle.mon_saved.specs.declared.image.Image.{Image}
use Rattle.mon_saved.specs.Image.{SpellsImage}
use Rattle.mon_saved.specs.Restored.{IsRestored, pairs_from, saved_pairs}
use Rattle.mon_saved.specs.Written.{entries_from, image_of, written_image}

own_samples : (i : ℕ) (xs : List ℕ) (rest : List (ℕ × ℕ)) → samples_of i (paired i xs ++ rest) ≡ xs ++ samples_of i rest
own_samples i [] rest = refl
own_samples i (x ∷ xs) rest = rw (eq-eqb i i refl) (ap (λ (v : List ℕ). x ∷ v) (own_samples i xs rest))

other_samples : (i k : ℕ) (xs : List ℕ) (rest : List (ℕ × ℕ)) → (k ≡ i → ⊥) → samples_of i (paired k xs ++ rest) ≡ samples_of i rest
other_samples i k [] rest differ = refl
other_samples i k (x ∷ xs) rest differ = rw (ne_eqb k i differ) (other_samples i k xs rest differ)

before_all : (i k : ℕ) (entries : List Entry) → i < k → samples_of i (pairs_from k entries) ≡ []
before_all i k [] lt = refl
before_all i k (e ∷ entries) lt =
    other_samples i k e.samples (pairs_from (k + 1) entries) (λ same. omega (arith, same, lt)) ∙ before_all i (k + 1) entries (omega (arith, lt))

after_all : (windows : ℕ → Samples) (i k : ℕ) (watched : List Watched) → k + length watched ≤ i → samples_of i (pairs_from k (entries_from windows k watched)) ≡ []
after_all windows i k [] le = refl
after_all windows i k (w ∷ watched) le =
    other_samples i k (rising (windows k)) (pairs_from (k + 1) (entries_from windows (k + 1) watched)) (λ same. omega (arith, same, le))
    ∙ after_all windows i (k + 1) watched (omega (arith, le))

among_all : (windows : ℕ → Samples) (i k : ℕ) (watched : List Watched) → k ≤ i → i < k + length watched → samples_of i (pairs_from k (entries_from windows k watched)) ≡ rising (windows i)
among_all windows i k [] low high = absurd (omega (arith, low, high))
among_all windows i k (w ∷ watched) low high = elim (cases_eq k i) [
  | inl same ↦ subst (λ (j : ℕ). samples_of j (pairs_from k (entries_from windows k (w ∷ watched))) ≡ rising (windows j)) same here
  | inr differ ↦ other_samples i k (rising (windows k)) (pairs_from (k + 1) (entries_from windows (k + 1) watched)) differ
      ∙ among_all windows i (k + 1) watched (above low differ) (omega (arith, high))
]
  where
    here : samples_of k (pairs_from k (entries_from windows k (w ∷ watched))) ≡ rising (windows k)
    here = own_samples k (rising (windows k)) (pairs_from (k + 1) (entries_from windows (k + 1) watched))
        ∙ ap (λ (v : List ℕ). rising (windows k) ++ v) (before_all k (k + 1) (entries_from windows (k + 1) watched) (omega arith)) ∙ append-nil (rising (windows k))

    above : k ≤ i → (k ≡ i → ⊥) → k + 1 ≤ i
    above le no_tie = elim (cases_lt k i) [
      | inl lt ↦ omega (arith, lt)
      | inr ge ↦ absurd (no_tie (omega (arith, le, ge)))
    ]

nothing_left : (xs : List ℕ) → length xs ≤ 0 → xs ≡ []
nothing_left [] le = refl
nothing_left (x ∷ xs) le = absurd (omega (arith, le))

-- beyond the last instance there is no sample
empty_beyond : (board : Board) (i : ℕ) → length board.watch.instances ≤ i → IsWhole board.watch (window_of board) i → set.from_list [] ≡ window_of board i
empty_beyond board i le whole =
    let none : size_of board.watch i ≡ 0 = get_or-eq_default (map (λ (w : Watched). w.window) board.watch.instances) 0 (omega (arith, le, length-map board.watch.instances (λ (w : Watched). w.window))) in
    let few = len-keep nat_cmp_total nat_cmp-IsAntisymmetric boots_of (size_of board.watch i) (epoch_of board.watch i) (window_of board i) in
    let kept = ap (λ (s : Samples). set.len s) whole in
    let count = len-rising nat_cmp_total nat_cmp-IsAntisymmetric (window_of board i) in
    ap (λ (v : List ℕ). set.from_list {R = nat_cmp} v) (sym (nothing_left (rising (window_of board i)) (omega (arith, none, few, kept, count)))) ∙ from_list-rising nat_cmp_total nat_cmp-IsAntisymmetric (window_of board i)

pub saved_sets : (board : Board) (incarnation : ℕ) → ((i : ℕ) → IsWhole board.watch (window_of board) i) → (i : ℕ) → set_of i (saved_pairs (image_of board incarnation)) ≡ window_of board i
saved_sets board incarnation whole i = elim (cases_lt i (length board.watch.instances)) [
  | inl lt ↦ ap (λ (v : List ℕ). set.from_list {R = nat_cmp} v) (among_all (window_of board) i 0 board.watch.instances (omega arith) (omega (arith, lt)))
      ∙ from_list-rising nat_cmp_total nat_cmp-IsAntisymmetric (window_of board i)
  | inr le ↦ ap (λ (v : List ℕ). set.from_list {R = nat_cmp} v) (after_all (window_of board) i 0 board.watch.instances (omega (arith, le))) ∙ empty_beyond board i le (whole i)
]

module _ (one_image : (octets : List ℕ) (instances : List Instance) (a b : Image) → SpellsImage octets instances a → SpellsImage octets instances b → a ≡ b) where
  pub kept_back : (watch : Watch) (board again : Board) (incarnation read : ℕ) → ((i : ℕ) → IsWhole board.watch (window_of board) i)
      → instances_of watch.instances ≡ instances_of board.watch.instances
      → SpellsImage (written_image board incarnation) (instances_of board.watch.instances) (image_of board incarnation)
      → IsRestored watch (written_image board incarnation) again read
      → (read ≡ incarnation) × ((i : ℕ) → window_of again i ≡ kept_by watch i (window_of board i))
  kept_back watch board again incarnation read whole same spelled restored =
      let found = subst (λ (v : List Instance). SpellsImage (written_image board incarnation) v restored.image) same restored.spelled in
      let is = one_image (written_image board incarnation) (instances_of board.watch.instances) restored.image (image_of board incarnation) found spelled in (
        restored.incarnation_is ∙ ap (λ (v : Image). v.incarnation) is,
        λ i. restored.windows i ∙ ap (λ (v : Image). window watch (saved_pairs v) i) is
            ∙ ap (λ (s : Samples). kept_by watch i s) (saved_sets board incarnation whole i),
      )

  pub same_back : (board again : Board) (incarnation read : ℕ) → ((i : ℕ) → IsWhole board.watch (window_of board) i)
      → SpellsImage (written_image board incarnation) (instances_of board.watch.instances) (image_of board incarnation)
      → IsRestored board.watch (written_image board incarnation) again read
      → (read ≡ incarnation) × ((i : ℕ) → window_of again i ≡ window_of board i)
  same_back board again incarnation read whole spelled restored =
      let kept = kept_back board.watch board again incarnation read whole refl spelled restored in
      (kept.0, λ i. kept.1 i ∙ whole i)
