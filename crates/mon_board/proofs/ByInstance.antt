-- Lists of pairs by instance.
use Rattle.std.proofs.Common.{ℕ, ◌≡◌, inl, inr, List, [], ◌∷◌, ◌++◌, refl, sym, ◌∙◌, ap}
use Rattle.std.specs.Prelude.{◌==◌, if◌then◌else◌}
use Rattle.std.specs.FinSet.{insert, union, from_list}
use Rattle.std.proofs.lemmas.Bool.{cases_Bool}
use Rattle.mon_window.specs.Window.{In}
use Rattle.mon_window.proofs.Promised.{from_list-append, union_none}
use Rattle.mon_board.specs.Watch.{Watch}
use Rattle.mon_board.specs.Windows.{samples_of, set_of, Has, IsPartOf, kept_by, window, joined}
use Rattle.mon_board.proofs.Promised.{kept_union, kept_meet, kept_insert, kept_stays}

samples_of-append : (i : ℕ) (xs ys : List (ℕ × ℕ)) → samples_of i (xs ++ ys) ≡ samples_of i xs ++ samples_of i ys
samples_of-append i [] ys = refl
samples_of-append i (x ∷ xs) ys = elim (cases_Bool (x.0 == i)) [
  | inl is ↦ rw is (ap (λ (l : List ℕ). x.1 ∷ l) (samples_of-append i xs ys))
  | inr not ↦ rw not (samples_of-append i xs ys)
]

pub set_of-append : (i : ℕ) (xs ys : List (ℕ × ℕ)) → set_of i (xs ++ ys) ≡ union (set_of i xs) (set_of i ys)
set_of-append i xs ys = ap (λ (l : List ℕ). from_list l) (samples_of-append i xs ys) ∙ from_list-append (samples_of i xs) (samples_of i ys)

module _ (watch : Watch) where
  pub joined_law : (taken pairs : List (ℕ × ℕ)) (i : ℕ) → joined watch (window watch taken) pairs i ≡ window watch (taken ++ pairs) i
  joined_law taken pairs i = kept_union watch i (set_of i taken) (set_of i pairs) ∙ ap (kept_by watch i) (sym (set_of-append i taken pairs))

  pub window_stays : (a b : List (ℕ × ℕ)) (i s : ℕ) → Has a i s → IsPartOf a b → In s (window watch b i) → In s (window watch a i)
  window_stays a b i s here within h = kept_stays watch i (set_of i a) (set_of i b) s here (within i) h

  -- lists of which each has what is in the other's windows leave equal windows
  pub windows_meet : (a b : List (ℕ × ℕ)) (i : ℕ) → ((s : ℕ) → In s (window watch a i) → Has b i s) → ((s : ℕ) → In s (window watch b i) → Has a i s) → window watch a i ≡ window watch b i
  windows_meet a b i ab ba = kept_meet watch i (set_of i a) (set_of i b) ab ba

  -- one pair more
  pub one_more_law : (taken : List (ℕ × ℕ)) (pair : ℕ × ℕ) (i : ℕ) → window watch (taken ++ pair ∷ []) i ≡ (if pair.0 == i then kept_by watch i (insert (window watch taken i) pair.1) else window watch taken i)
  one_more_law taken pair i = ap (kept_by watch i) (set_of-append i taken (pair ∷ [])) ∙ elim (cases_Bool (pair.0 == i)) [
    | inl is ↦ rw is (kept_insert watch i (set_of i taken) pair.1)
    | inr not ↦ rw not (ap (kept_by watch i) (union_none (set_of i taken)))
  ]
