-- The exponent of the last digit that is written.
use Rattle.std.proofs.Common.{◌≡◌, ◌∙◌, ℕ, zero, suc, ◌+◌, ◌-◌, ◌*◌, ◌/◌, ◌%◌, ◌^◌, ◌<◌, ◌≤◌, Bool, true, false, ap, sym, refl, subst, arith}
use Rattle.std.specs.Prelude.{nat_le, if◌then◌else◌}
use Rattle.std.proofs.Math.Nat.{one-le-pow, pow-le-pow_right, pow-suc}
use Rattle.std.proofs.lemmas.Bool.{le-leb, lt-leb}
use Rattle.mon_display.specs.Rate.{digits_of, exponent_from, exponent_of, rounded}

-- a power of ten is at least 1
pub step_some : (e : ℕ) → 1 ≤ 10 ^ e
step_some e = one-le-pow e 10 (omega arith)

-- one with an exponent of at most 30 is at most 10 ^ 30
pub step_small : (e : ℕ) → e ≤ 30 → 10 ^ e ≤ 10 ^ 30
step_small e h = pow-le-pow_right (omega arith) h

-- the exponent at which it stops
pub stops : (more k n : ℕ) → nat_le (rounded n (10 ^ k)) 999 ≡ true → exponent_from more k n ≡ k
unfolding exponent_from
stops zero k n e = refl
stops (suc more) k n e = ap (λ (b : Bool). if b then k else exponent_from more (k + 1) n) e

-- the exponent after which it goes on
pub goes_on : (more k n : ℕ) → nat_le (rounded n (10 ^ k)) 999 ≡ false → exponent_from (suc more) k n ≡ exponent_from more (k + 1) n
unfolding exponent_from
goes_on more k n e = ap (λ (b : Bool). if b then k else exponent_from more (k + 1) n) e

-- where it ends
pub ends : (k n : ℕ) → exponent_from 0 k n ≡ k
unfolding exponent_from
ends k n = refl

-- where it begins
pub begins : (n : ℕ) → exponent_from 30 0 n ≡ exponent_of n
unfolding exponent_of
begins n = refl

-- the digits with the exponent that is found
pub first_digits : (n k : ℕ) → k ≡ exponent_of n → rounded n (10 ^ k) ≡ digits_of n
unfolding digits_of
first_digits n k e = ap (λ (x : ℕ). rounded n (10 ^ x)) e

-- what is kept before an exponent is tried: the step is its power, and those before it were too
-- small
abbrev pub IsSoFar : ℕ → ℕ → ℕ → Type 0
IsSoFar n e step = (step ≡ 10 ^ e) × (exponent_from (30 - e) e n ≡ exponent_of n)

-- the exponent is found
pub found : (n e step m : ℕ) → IsSoFar n e step → m ≡ rounded n step → m ≤ 999 → e ≡ exponent_of n
found n e step m so is few =
    let at : rounded n (10 ^ e) ≡ m = ap (λ (x : ℕ). rounded n x) (sym so.0) ∙ sym is in
    sym (stops (30 - e) e n (le-leb _ _ (subst (λ (x : ℕ). x ≤ 999) (sym at) few))) ∙ so.1

-- the next one is tried
pub passed : (n e step m : ℕ) → IsSoFar n e step → m ≡ rounded n step → 999 < m → e < 30 → IsSoFar n (e + 1) (step * 10)
passed n e step m so is many below =
    let at : rounded n (10 ^ e) ≡ m = ap (λ (x : ℕ). rounded n x) (sym so.0) ∙ sym is in
    let up : suc e ≡ e + 1 = omega arith in
    let left : suc (30 - (e + 1)) ≡ 30 - e = omega (arith, below) in (
      ap (λ (x : ℕ). x * 10) so.0 ∙ sym (pow-suc 10 e) ∙ ap (λ (x : ℕ). 10 ^ x) up,
      sym (goes_on (30 - (e + 1)) e n (lt-leb _ _ (subst (λ (x : ℕ). 999 < x) (sym at) many)))
          ∙ ap (λ (x : ℕ). exponent_from x e n) left ∙ so.1,
    )

-- none before the last one is found
pub ended : (n e step : ℕ) → IsSoFar n e step → e ≡ 30 → 30 ≡ exponent_of n
ended n e step so is =
    sym (ends 30 n) ∙ ap (λ (x : ℕ). exponent_from (30 - x) x n) (sym is) ∙ so.1

pub last_step : (e step : ℕ) → step ≡ 10 ^ e → e ≡ 30 → step ≡ 10 ^ 30
last_step e step so is = so ∙ ap (λ (x : ℕ). 10 ^ x) is
