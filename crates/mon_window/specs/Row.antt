-- Samples in a row with memory for more.
use Rattle.std.specs.Prelude.{ℕ, List, refl}
use Rattle.std.specs.Coded.{Coded, code_by, coded×, coded_list, coded_ℕ}

-- the samples, and for how many there is memory
pub record Row : Type 0 where
  pub items : List ℕ
  pub room : ℕ

-- a row as a pair
abbrev pub row_code : Coded Row
row_code = code_by (List ℕ × ℕ) (coded× (coded_list coded_ℕ) coded_ℕ) (λ r. (r.items, r.room))
    (λ p. record { items = p.0; room = p.1 }) (λ _. refl)
