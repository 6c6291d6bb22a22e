-- Rounded numbers.
use Rattle.std.proofs.Common.{◌≡◌, ◌∙◌, ℕ, zero, suc, ◌+◌, ◌-◌, ◌*◌, ◌/◌, ◌%◌, ◌^◌, ◌<◌, ◌≤◌, Bool, true, false, ap, sym, refl, subst, arith}
use Rattle.std.specs.Prelude.{nat_le, if◌then◌else◌}
use Rattle.std.proofs.Math.Nat.{mod-lt, mul-le-mul_right, pow-suc}
use Rattle.std.proofs.lemmas.Nat.{div-add-mod'}
use Rattle.std.proofs.lemmas.Bool.{leb-false, leb-true, lt-leb}
use Rattle.mon_display.specs.Rate.{digits_of, exponent_from, exponent_of, rounded}
use Rattle.mon_display.proofs.Exponents.{begins, ends, goes_on, step_some, stops}

-- a number and its rounded steps, which are one more from half a step on
near : (n step : ℕ) (b : Bool) → 1 ≤ step → nat_le step (2 * (n % step)) ≡ b
    → (2 * ((n / step + (if b then 1 else 0)) * step) ≤ 2 * n + step)
    × (2 * n < 2 * ((n / step + (if b then 1 else 0)) * step) + step)
near n step true h e =
    let wide : (n / step + 1) * step ≡ n / step * step + step = grind arith in
    (omega (arith, wide, div-add-mod' n step, leb-true _ _ e), omega (arith, wide, div-add-mod' n step, mod-lt n h))
near n step false h e =
    let wide : (n / step + 0) * step ≡ n / step * step = grind arith in
    (omega (arith, wide, div-add-mod' n step), omega (arith, wide, div-add-mod' n step, leb-false _ _ e))

-- what is written is at most half a step above the number
pub below : (n step : ℕ) → 1 ≤ step → 2 * (rounded n step * step) ≤ 2 * n + step
unfolding rounded
below n step h = (near n step (nat_le step (2 * (n % step))) h refl).0

-- and less than that below it
pub above : (n step : ℕ) → 1 ≤ step → 2 * n < 2 * (rounded n step * step) + step
unfolding rounded
above n step h = (near n step (nat_le step (2 * (n % step))) h refl).1

-- a thousand steps and more are a hundred and more of ten times the step
tenth : (n step : ℕ) → 1 ≤ step → 1000 ≤ rounded n step → 100 ≤ rounded n (step * 10)
tenth n step h many = by (nat_le 100 (rounded n (step * 10))) refl where
  least : 1000 * step ≤ rounded n step * step
  least = mul-le-mul_right step many

  by : (b : Bool) → nat_le 100 (rounded n (step * 10)) ≡ b → 100 ≤ rounded n (step * 10)
  by true e = leb-true _ _ e
  by false e =
      let few : rounded n (step * 10) ≤ 99 = omega (arith, leb-false _ _ e) in
      let most : rounded n (step * 10) * (step * 10) ≤ 99 * (step * 10) = mul-le-mul_right (step * 10) few in
      omega (arith, least, most, below n step h, above n (step * 10) (omega (arith, h)))

next : (k n : ℕ) → 1000 ≤ rounded n (10 ^ k) → 100 ≤ rounded n (10 ^ (k + 1))
next k n many =
    let up : suc k ≡ k + 1 = omega arith in
    let step : 10 ^ k * 10 ≡ 10 ^ (k + 1) = sym (pow-suc 10 k) ∙ ap (λ (x : ℕ). 10 ^ x) up in
    subst (λ (x : ℕ). 100 ≤ rounded n x) step (tenth n (10 ^ k) (step_some k) many)

-- where an exponent is too small, the one that is found has a hundred steps or more
many_from : (more k n : ℕ) → 1000 ≤ rounded n (10 ^ k) → 100 ≤ rounded n (10 ^ exponent_from more (k + 1) n)
many_from zero k n many = subst (λ (x : ℕ). 100 ≤ rounded n (10 ^ x)) (sym (ends (k + 1) n)) (next k n many)
many_from (suc more) k n many = by (many_from more (k + 1) n) (nat_le (rounded n (10 ^ (k + 1))) 999) refl where
  by : (1000 ≤ rounded n (10 ^ (k + 1)) → 100 ≤ rounded n (10 ^ exponent_from more (k + 1 + 1) n)) → (b : Bool)
      → nat_le (rounded n (10 ^ (k + 1))) 999 ≡ b → 100 ≤ rounded n (10 ^ exponent_from (suc more) (k + 1) n)
  by later true e = subst (λ (x : ℕ). 100 ≤ rounded n (10 ^ x)) (sym (stops (suc more) (k + 1) n e)) (next k n many)
  by later false e =
      subst (λ (x : ℕ). 100 ≤ rounded n (10 ^ x)) (sym (goes_on more (k + 1) n e)) (later (omega (arith, leb-false _ _ e)))

-- a number of at least a thousand thousandths
pub many : (n : ℕ) → 1000 ≤ n → 100 ≤ digits_of n
unfolding digits_of
many n h =
    let whole : 1000 ≤ rounded n (10 ^ 0) = omega (arith, h, above n 1 (omega arith)) in
    let first : exponent_from 30 0 n ≡ exponent_from 29 1 n = goes_on 29 0 n (lt-leb _ _ (omega (arith, whole))) in
    subst (λ (x : ℕ). 100 ≤ rounded n (10 ^ x)) (sym first ∙ begins n) (many_from 29 0 n whole)

-- at most 999 steps are found, where those of the last exponent are that few
few_from : (more k n : ℕ) → rounded n (10 ^ (k + more)) ≤ 999 → rounded n (10 ^ exponent_from more k n) ≤ 999
few_from zero k n few = subst (λ (x : ℕ). rounded n (10 ^ x) ≤ 999) (omega arith ∙ sym (ends k n)) few
few_from (suc more) k n few = by (few_from more (k + 1) n) (nat_le (rounded n (10 ^ k)) 999) refl where
  by : (rounded n (10 ^ (k + 1 + more)) ≤ 999 → rounded n (10 ^ exponent_from more (k + 1) n) ≤ 999) → (b : Bool)
      → nat_le (rounded n (10 ^ k)) 999 ≡ b → rounded n (10 ^ exponent_from (suc more) k n) ≤ 999
  by later true e = subst (λ (x : ℕ). rounded n (10 ^ x) ≤ 999) (sym (stops (suc more) k n e)) (leb-true _ _ e)
  by later false e =
      let same : k + suc more ≡ k + 1 + more = omega arith in
      subst (λ (x : ℕ). rounded n (10 ^ x) ≤ 999) (sym (goes_on more k n e))
      (later (subst (λ (x : ℕ). rounded n (10 ^ x) ≤ 999) same few))

-- a number below 10 ^ 32
pub few : (n : ℕ) → n < 10 ^ 32 → digits_of n ≤ 999
unfolding digits_of
few n h =
    let last : rounded n (10 ^ 30) ≤ 999 = omega (arith, h, below n (10 ^ 30) (omega arith)) in
    subst (λ (x : ℕ). rounded n (10 ^ x) ≤ 999) (begins n) (few_from 30 0 n last)
