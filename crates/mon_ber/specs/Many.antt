-- Reading one after the other, until all the octets are used up.
use Rattle.std.specs.Prelude.{ℕ, zero, suc, List, [], ◌∷◌, ◌++◌, Result, Ok, Err}
pub use Rattle.mon_ber.specs.Sequence.{AreSpelled}
use Rattle.mon_oid.specs.Steps.{◌>>=◌}

-- what reads one of them reads all; where octets are left after this many of them, the fault is
-- full
unfoldable pub many : {A E : Type 0} → (List ℕ → Result (A × List ℕ) E) → E → ℕ → List ℕ
    → Result (List A) E
many read full room [] = Ok []
many read full zero (b ∷ bs) = Err full
many read full (suc room) (b ∷ bs) = read (b ∷ bs) >>= λ x. many read full room x.1 >>= λ xs. Ok
    (x.0 ∷ xs)

-- what was read before, and what is still read
abbrev pub with_front : {A E : Type 0} → List A → Result (List A) E → Result (List A) E
with_front front read = read >>= λ xs. Ok (front ++ xs)
