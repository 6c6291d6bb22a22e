-- Lists changed place by place.
use Rattle.std.proofs.Common.{◌≡◌, ◌≢◌, ℕ, ◌+◌, ◌<◌, ◌≤◌, List, ◌++◌, length, get_or, set, take, drop, refl, sym, ap, ◌∙◌, subst, arith, inl, inr}
use Rattle.std.proofs.lemmas.Bool.{cases_eq}
use Rattle.std.proofs.lemmas.List.{get_or-set_same, get_or-set_other, get_or_default, length-set, take_all, drop_all, append-nil}
use Rattle.mon_board.specs.Each.{AreChanged}

-- what is below i was changed, and what comes from there on was not
pub record AreChangedTo {X : Type 0} (R : ℕ → X → X → Type 0) (old new : List X) (i : ℕ) : Type 0 where
  pub number : length new ≡ length old
  pub done : (j : ℕ) (d : X) → j < i → R j (get_or old j d) (get_or new j d)
  pub left : (j : ℕ) (d : X) → i ≤ j → get_or new j d ≡ get_or old j d

module _ {X : Type 0} (R : ℕ → X → X → Type 0) (old : List X) where
  pub none_changed : AreChangedTo R old old 0
  none_changed = record { number = refl; done = λ j d lt. absurd (omega arith); left = λ j d le. refl }

  pub one_changed : (new : List X) (i : ℕ) (x y : X) → AreChangedTo R old new i → i < length new → x ≡ get_or new i x → R i x y → AreChangedTo R old (set new i y) (i + 1)
  one_changed new i x y changed lt was step = record {
    number = length-set new i y ∙ changed.number;
    done = λ j d below. elim (cases_eq j i) [
      | inl e ↦ subst (λ (m : ℕ). R m (get_or old m d) (get_or (set new i y) m d)) (sym e)
          (subst (λ (z : X). R i z (get_or (set new i y) i d)) (was ∙ get_or_default new i x d lt ∙ changed.left i d (omega arith))
          (subst (λ (z : X). R i x z) (sym (get_or-set_same new i y d lt)) step))
      | inr ne ↦ subst (λ (z : X). R j (get_or old j d) z) (sym (get_or-set_other new i j y d ne)) (changed.done j d (omega arith))
    ];
    left = λ j d above. let ne : j ≢ i = (λ e. absurd (omega (arith, e))) in get_or-set_other new i j y d ne ∙ changed.left j d (omega arith);
  }

  pub all_changed : (new : List X) (i : ℕ) → AreChangedTo R old new i → length old ≤ i → AreChanged R old new
  all_changed new i changed le = record { number = changed.number; each = λ j d lt. changed.done j d (omega arith) }

-- a vector over which as many elements were written
pub written : {X : Type 0} (xs ys : List X) (n : ℕ) → n ≡ length xs → length ys ≡ length xs → take n (ys ++ drop (length ys) xs) ≡ ys
written xs ys n held long =
    let past : length xs ≤ length ys = omega (arith, long) in
    let few : length ys ≤ n = omega (arith, held, long) in
    ap (λ l. take n (ys ++ l)) (drop_all (length ys) xs past) ∙ ap (take n) (append-nil ys) ∙ take_all n ys few
