-- The bits of slots.
use Rattle.std.proofs.Common.{◌≡◌, ◌≢◌, ℕ, ◌<◌, ◌*◌, ◌^◌, ◌%◌, Bool, true, false, ◌||◌, ◌&&◌, not, refl, sym, ap, ◌∙◌, arith, inl, inr}
use Rattle.std.specs.Prelude.{◌==◌}
use Rattle.std.specs.Int.{w16, bit_at}
use Rattle.std.specs.Int.Bits.{bit_or, bit_and, or_zero_l}
use Rattle.std.specs.Int.{bit_not}
use Rattle.std.proofs.lemmas.Bool.{cases_eq, cases_lt, eq-eqb, ne_eqb}
use Rattle.std.proofs.lemmas.Nat.Bits.{bit_at_set_same, bit_at_set_other, bit_at_clear_same, bit_at_clear_other, bit_at_and, bit_at_above, bit_at-zero}
use Rattle.mon_board.specs.Marks.{has_bit}

or_true : (b : Bool) → (b || true) ≡ true
or_true true = refl
or_true false = refl

or_false : (b : Bool) → (b || false) ≡ b
or_false true = refl
or_false false = refl

and_true : (b : Bool) → (b && true) ≡ b
and_true true = refl
and_true false = refl

and_false : (b : Bool) → (b && false) ≡ false
and_false true = refl
and_false false = refl

pub no_bit : (k : ℕ) → has_bit k 0 ≡ false
no_bit k = ap (λ b. b == 1) (bit_at-zero k)

module _ (slot : ℕ) (small : slot < 16) where
  -- a bit that is set
  pub bit_set : (k bits : ℕ) → has_bit k (bit_or bits (1 * 2 ^ slot % 2 ^ 16)) ≡ (has_bit k bits || (k == slot))
  bit_set k bits = elim (cases_eq k slot) [
    | inl e ↦
        ap (λ (m : ℕ). has_bit m (bit_or bits (1 * 2 ^ slot % 2 ^ 16))) e ∙ eq-eqb _ 1 (bit_at_set_same w16 bits slot small)
        ∙ sym (ap (λ b. has_bit k bits || b) (eq-eqb k slot e) ∙ or_true (has_bit k bits))
    | inr ne ↦ ap (λ b. b == 1) (bit_at_set_other w16 bits slot small k ne) ∙ sym (ap (λ b. has_bit k bits || b) (ne_eqb k slot ne) ∙ or_false (has_bit k bits))
  ]

  pub bit_alone : (k : ℕ) → has_bit k (1 * 2 ^ slot % 2 ^ 16) ≡ (has_bit k 0 || (k == slot))
  bit_alone k = ap (has_bit k) (sym (or_zero_l (1 * 2 ^ slot % 2 ^ 16))) ∙ bit_set k 0

  -- a bit that is taken away
  pub bit_cleared : (k bits : ℕ) → bits < 2 ^ 16 → has_bit k (bit_and bits (bit_not w16 (1 * 2 ^ slot % 2 ^ 16))) ≡ (has_bit k bits && not (k == slot))
  bit_cleared k bits lt = elim (cases_eq k slot) [
    | inl e ↦
        ap (λ (m : ℕ). has_bit m (bit_and bits (bit_not w16 (1 * 2 ^ slot % 2 ^ 16)))) e ∙ ap (λ b. b == 1) (bit_at_clear_same w16 bits slot small)
        ∙ sym (ap (λ b. has_bit k bits && not b) (eq-eqb k slot e) ∙ and_false (has_bit k bits))
    | inr ne ↦ kept ne ∙ sym (ap (λ b. has_bit k bits && not b) (ne_eqb k slot ne) ∙ and_true (has_bit k bits))
  ]
    where
      kept : k ≢ slot → has_bit k (bit_and bits (bit_not w16 (1 * 2 ^ slot % 2 ^ 16))) ≡ has_bit k bits
      kept ne = elim (cases_lt k 16) [
        | inl low ↦ ap (λ b. b == 1) (bit_at_clear_other w16 bits slot small k low ne)
        | inr high ↦
            let none : bit_at bits k ≡ 0 = bit_at_above bits 16 k lt high in
            let over : bit_at (bit_and bits (bit_not w16 (1 * 2 ^ slot % 2 ^ 16))) k ≡ 0 = omega (arith, none, bit_at_and bits (bit_not w16 (1 * 2 ^ slot % 2 ^ 16)) k) in
            ap (λ b. b == 1) (over ∙ sym none)
      ]
