-- Windows that are carried one after another.
use Rattle.std.proofs.Common.{◌≡◌, ◌≢◌, ℕ, ◌+◌, ◌<◌, ◌≤◌, Bool, List, [], ◌∷◌, refl, sym, ap, ◌∙◌, inl, inr, ◌⊎◌, arith, cond}
use Rattle.std.specs.Cmp.{nat_cmp_total}
use Rattle.std.specs.FinSet as set
use Rattle.std.specs.FinSet.{nat_cmp-IsAntisymmetric}
use Rattle.std.specs.Ordering.{nat_cmp}
use Rattle.std.proofs.lemmas.Bool.{cases_eq, cases_lt, eq-eqb, ne_eqb}
use Rattle.mon_window.proofs.Promised.{in_either, in_empty, in_right, from_list-rising}
use Rattle.mon_window.specs.Top.{rising}
use Rattle.mon_window.specs.Window.{In, Samples}
use Rattle.mon_board.proofs.Promised.{kept_meet, kept_within}
use Rattle.mon_board.specs.Board.{Board, KeepsMarks}
use Rattle.mon_board.specs.Watch.{Watch}
use Rattle.mon_board.specs.Windows.{joined, kept_by, paired, samples_of, set_of}
use Rattle.mon_saved.specs.Restored.{IsUnmarked}

-- the samples of an instance's own pairs, and of another's
own_samples : (i : ℕ) (xs : List ℕ) → samples_of i (paired i xs) ≡ xs
own_samples i [] = refl
own_samples i (x ∷ xs) = ap (λ (t : Bool). cond t (x ∷ samples_of i (paired i xs)) (samples_of i (paired i xs))) (eq-eqb i i refl) ∙ ap (λ (l : List ℕ). x ∷ l) (own_samples i xs)

other_samples : (i k : ℕ) (xs : List ℕ) → i ≢ k → samples_of k (paired i xs) ≡ []
other_samples i k [] ne = refl
other_samples i k (x ∷ xs) ne = ap (λ (t : Bool). cond t (x ∷ samples_of k (paired i xs)) (samples_of k (paired i xs))) (ne_eqb i k ne) ∙ other_samples i k xs ne

-- an empty window with samples put in is what is kept of these
pub from_empty : (watch : Watch) (i : ℕ) (own given : Samples) → own ≡ set.empty → kept_by watch i (set.union own given) ≡ kept_by watch i given
from_empty watch i own given none =
    ap (λ (s : Samples). kept_by watch i (set.union s given)) none
    ∙ kept_meet watch i (set.union set.empty given) given
    (λ s h. of_given s (in_either s set.empty given (kept_within watch i (set.union set.empty given) s h)))
    (λ s h. in_right s set.empty given (kept_within watch i given s h))
  where
    of_given : (s : ℕ) → In s set.empty ⊎ In s given → In s given
    of_given s (inl h) = absurd (in_empty s h)
    of_given s (inr h) = h

-- the list of a window has its samples
pub listed : (window : Samples) (xs : List ℕ) → xs ≡ rising window → set.from_list xs ≡ window
listed window xs is = ap (λ (l : List ℕ). set.from_list {R = nat_cmp} l) is ∙ from_list-rising nat_cmp_total nat_cmp-IsAntisymmetric window

-- the samples of a window that are put into an empty one
pub put_own : (watch : Watch) (windows : ℕ → Samples) (i : ℕ) (given : Samples) (xs : List ℕ) → set.from_list xs ≡ given → windows i ≡ set.empty
    → joined watch windows (paired i xs) i ≡ kept_by watch i given
put_own watch windows i given xs is none =
    from_empty watch i (windows i) (set_of i (paired i xs)) none
    ∙ ap (λ (l : List ℕ). kept_by watch i (set.from_list l)) (own_samples i xs)
    ∙ ap (kept_by watch i) is

-- no other window changes
pub put_other : (watch : Watch) (windows : ℕ → Samples) (i k : ℕ) (xs : List ℕ) → joined watch windows [] k ≡ windows k → i ≢ k
    → joined watch windows (paired i xs) k ≡ windows k
put_other watch windows i k xs whole ne = ap (λ (l : List ℕ). kept_by watch k (set.union (windows k) (set.from_list l))) (other_samples i k xs ne) ∙ whole

pub stays_unmarked : (old new : Board) → KeepsMarks old new → IsUnmarked old → IsUnmarked new
stays_unmarked old new keeps none slot i s =
    let kept = ap (λ (marked : ℕ → ℕ → Bool). marked i s) (keeps slot) in
    kept ∙ rw (none slot i s) refl

-- one place more, from the first to the last
module _ (carried : ℕ → Samples) (empty : Samples) where
  -- the first n windows are carried, and the others are empty
  pub record AreUpTo (n : ℕ) (windows : ℕ → Samples) : Type 0 where
    pub done : (k : ℕ) → k < n → windows k ≡ carried k
    pub left : (k : ℕ) → n ≤ k → windows k ≡ empty

  pub one_more : (n : ℕ) (old new : ℕ → Samples) → AreUpTo n old → new n ≡ carried n → ((k : ℕ) → k ≢ n → new k ≡ old k) → AreUpTo (n + 1) new
  one_more n old new up own others = record {
    done = λ k lt. elim (cases_eq k n) [
      | inl e ↦ ap new e ∙ own ∙ ap carried (sym e)
      | inr ne ↦ others k ne ∙ up.done k (below k lt ne)
    ];
    left = λ k le. others k (apart k le) ∙ up.left k (omega (arith, le));
  }
    where
      below : (k : ℕ) → k < n + 1 → k ≢ n → k < n
      below k lt ne = elim (cases_lt k n) [
        | inl less ↦ less
        | inr le ↦ absurd (ne (omega (arith, lt, le)))
      ]

      apart : (k : ℕ) → n + 1 ≤ k → k ≢ n
      apart k le e = omega (arith, le, e)

  -- at the end
  pub all_done : (n : ℕ) (windows : ℕ → Samples) → AreUpTo n windows → ((k : ℕ) → n ≤ k → carried k ≡ empty) → (k : ℕ) → windows k ≡ carried k
  all_done n windows up past k = elim (cases_lt k n) [
    | inl less ↦ up.done k less
    | inr le ↦ up.left k le ∙ sym (past k le)
  ]
