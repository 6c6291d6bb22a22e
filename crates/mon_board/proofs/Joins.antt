-- Windows joined, and samples taken one after another.
use Rattle.std.proofs.Common.{◌≡◌, ℕ, Bool, true, false, cond, ◌||◌, List, [], ◌∷◌, ◌++◌, refl, sym, ap, ◌∙◌, inl, inr}
use Rattle.std.specs.Prelude.{◌==◌}
use Rattle.std.specs.Cmp.{nat_cmp_total}
use Rattle.std.specs.FinSet.{nat_cmp-IsAntisymmetric, contains, insert, union, from_list, same_set, contains-union}
use Rattle.std.specs.Ordering.{nat_cmp}
use Rattle.std.proofs.lemmas.Bool.{cases_eq, eq-eqb, ne_eqb}
use Rattle.mon_window.specs.Window.{Samples}
use Rattle.mon_window.proofs.Promised.{union_none}
use Rattle.mon_board.specs.Watch.{Watch}
use Rattle.mon_board.specs.Windows.{set_of, kept_by, window, joined, of_both, IsWhole, IsTaken}
use Rattle.mon_board.proofs.ByInstance.{set_of-append}
use Rattle.mon_board.proofs.Promised.{kept_union, kept_insert}

or_turned : (a b : Bool) → (a || b) ≡ (b || a)
or_turned true true = refl
or_turned true false = refl
or_turned false true = refl
or_turned false false = refl

or_grouped : (a b c : Bool) → ((a || b) || c) ≡ (a || (b || c))
or_grouped true b c = refl
or_grouped false b c = refl

or_same : (a : Bool) → (a || a) ≡ a
or_same true = refl
or_same false = refl

in_union : (a b : Samples) (q : ℕ) → contains (union a b) q ≡ (contains a q || contains b q)
in_union a b q = contains-union nat_cmp_total a b q

equal_sets : (a b : Samples) → ((q : ℕ) → contains a q ≡ contains b q) → a ≡ b
equal_sets a b is = same_set nat_cmp_total nat_cmp-IsAntisymmetric a b is

union_turned : (a b : Samples) → union a b ≡ union b a
union_turned a b = equal_sets _ _ (λ q. in_union a b q ∙ or_turned (contains a q) (contains b q) ∙ sym (in_union b a q))

union_grouped : (a b c : Samples) → union (union a b) c ≡ union a (union b c)
union_grouped a b c = equal_sets _ _ (λ q.
    in_union (union a b) c q ∙ ap (λ t. t || contains c q) (in_union a b q) ∙ or_grouped (contains a q) (contains b q) (contains c q)
    ∙ sym (in_union a (union b c) q ∙ ap (λ t. contains a q || t) (in_union b c q)))

union_same : (a : Samples) → union a a ≡ a
union_same a = equal_sets _ _ (λ q. in_union a a q ∙ or_same (contains a q))

-- the samples of one pair
own_set : (pair : ℕ × ℕ) (i : ℕ) → (pair.0 == i) ≡ true → set_of i (pair ∷ []) ≡ from_list (pair.1 ∷ [])
own_set pair i test = ap (λ (t : Bool). from_list {R = nat_cmp} (cond t (pair.1 ∷ []) [])) test

other_set : (pair : ℕ × ℕ) (i : ℕ) → (pair.0 == i) ≡ false → set_of i (pair ∷ []) ≡ from_list []
other_set pair i test = ap (λ (t : Bool). from_list {R = nat_cmp} (cond t (pair.1 ∷ []) [])) test

module _ (watch : Watch) where
  -- what is kept of one side may be kept before, on either side
  on_left : (i : ℕ) (a b : Samples) → kept_by watch i (union (kept_by watch i a) b) ≡ kept_by watch i (union a b)
  on_left i a b = kept_union watch i a b

  on_right : (i : ℕ) (a b : Samples) → kept_by watch i (union a (kept_by watch i b)) ≡ kept_by watch i (union a b)
  on_right i a b = ap (kept_by watch i) (union_turned a (kept_by watch i b)) ∙ on_left i b a ∙ ap (kept_by watch i) (union_turned b a)

  pub commutative : (a b : ℕ → Samples) (i : ℕ) → of_both watch a b i ≡ of_both watch b a i
  commutative a b i = ap (kept_by watch i) (union_turned (a i) (b i))

  pub associative : (a b c : ℕ → Samples) (i : ℕ) → of_both watch (of_both watch a b) c i ≡ of_both watch a (of_both watch b c) i
  associative a b c i = on_left i (union (a i) (b i)) (c i) ∙ ap (kept_by watch i) (union_grouped (a i) (b i) (c i)) ∙ sym (on_right i (a i) (union (b i) (c i)))

  pub idempotent : (a : ℕ → Samples) (i : ℕ) → IsWhole watch a i → of_both watch a a i ≡ a i
  idempotent a i whole = ap (kept_by watch i) (union_same (a i)) ∙ whole

  pub both_taken : (some others : List (ℕ × ℕ)) (i : ℕ) → of_both watch (window watch some) (window watch others) i ≡ window watch (some ++ others) i
  both_taken some others i = on_left i (set_of i some) (kept_by watch i (set_of i others)) ∙ on_right i (set_of i some) (set_of i others) ∙ ap (kept_by watch i) (sym (set_of-append i some others))

  pub none_put : (windows : ℕ → Samples) (i : ℕ) → IsWhole watch windows i → joined watch windows [] i ≡ windows i
  none_put windows i whole = ap (kept_by watch i) (union_none (windows i)) ∙ whole

  pub one_put : (old new : ℕ → Samples) (pair : ℕ × ℕ) → ((i : ℕ) → IsWhole watch old i) → IsTaken watch old new pair.0 pair.1 → (i : ℕ) → new i ≡ joined watch old (pair ∷ []) i
  one_put old new pair whole taken i = elim (cases_eq i pair.0) [
    | inl e ↦
        let test : (pair.0 == i) ≡ true = eq-eqb pair.0 i (sym e) in
        let put : kept_by watch i (union (old i) (from_list (pair.1 ∷ []))) ≡ kept_by watch i (insert (old i) pair.1) =
        kept_insert watch i (old i) pair.1 ∙ ap (λ a. kept_by watch i (insert a pair.1)) (whole i) in
        ap new e ∙ taken.changed ∙ (λ j. kept_by watch (sym e j) (insert (old (sym e j)) pair.1)) ∙ sym put ∙ ap (λ a. kept_by watch i (union (old i) a)) (sym (own_set pair i test))
    | inr ne ↦
        let test : (pair.0 == i) ≡ false = ne_eqb pair.0 i (λ e. ne (sym e)) in
        taken.others i ne ∙ sym (none_put old i (whole i)) ∙ ap (λ a. kept_by watch i (union (old i) a)) (sym (other_set pair i test))
  ]

  pub more_put : (windows : ℕ → Samples) (pairs more : List (ℕ × ℕ)) (i : ℕ) → joined watch (joined watch windows pairs) more i ≡ joined watch windows (pairs ++ more) i
  more_put windows pairs more i =
      on_left i (union (windows i) (set_of i pairs)) (set_of i more) ∙ ap (kept_by watch i) (union_grouped (windows i) (set_of i pairs) (set_of i more))
      ∙ ap (λ a. kept_by watch i (union (windows i) a)) (sym (set_of-append i pairs more))
