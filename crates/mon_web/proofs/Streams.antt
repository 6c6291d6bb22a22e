-- What is offered to a stream.
use native.Mathlib.Omega.{arith}
use Rattle.std.proofs.Common.{◌≡◌, ◌≤◌, ◌∙◌, ap, sym, ℕ, List, length, take, take_all, ◌⊎◌, inl, inr}
use Rattle.std.specs.Prelude.{min}
use Rattle.mon_web.specs.Stream.{part_of}

-- no more than there is
pub part_is : (pending unsent : List ℕ) (len : ℕ) → pending ≡ unsent → len ≡ min (length pending) 65536
    → take len pending ≡ part_of unsent
part_is pending unsent len same is = at (cases_le (length pending) 65536) ∙ ap part_of same
  where
    cases_le : (a b : ℕ) → (a ≤ b) ⊎ (b ≤ a)
    cases_le a b = grind arith

    at : (length pending ≤ 65536) ⊎ (65536 ≤ length pending) → take len pending ≡ take 65536 pending
    at (inl short) =
        let all : len ≡ length pending = grind (arith, is) in
        take_all len pending (omega arith) ∙ sym (take_all 65536 pending short)
    at (inr long) = ap (λ (n : ℕ). take n pending) (let it : len ≡ 65536 = grind (arith, is) in it)
