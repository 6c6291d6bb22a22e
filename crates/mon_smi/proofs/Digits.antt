-- A number in decimal begins with a digit.
use Rattle.std.proofs.Common.{◌≡◌, ℕ, ◌<◌, ◌^◌, true, List, [], ◌∷◌, length, get_or, arith, rules}
use Rattle.std.specs.Prelude.{decimal}
use Rattle.std.specs.Char.{is_ascii_digit}
use Rattle.std.specs.Str.{all_ascii_digits}
use Rattle.std.specs.Str.Parse.{digits_value}
use Rattle.std.proofs.lemmas.Bool.{and_parts}
use Rattle.std.proofs.lemmas.Fmt.{digits_decimal, decimal_nonempty}
use Rattle.std.proofs.lemmas.Str.Parse.{IsNumeralModel, numerals_by_value}

own : IsNumeralModel (λ ds. all_ascii_digits ds ≡ true) (digits_value 10)
own = numerals_by_value _ (search rules)

pub decimal_digits : (y : ℕ) → y < 2 ^ 32 → (0 < length (decimal y)) × (is_ascii_digit (get_or (decimal y) 0 0) ≡ true)
decimal_digits y small =
    let some = decimal_nonempty y (omega (arith, small)) in
    (some, first (decimal y) some (digits_decimal own y (omega (arith, small))))
  where
    first : (ds : List ℕ) → 0 < length ds → all_ascii_digits ds ≡ true → is_ascii_digit (get_or ds 0 0) ≡ true
    first [] some digits = absurd (omega arith)
    first (c ∷ cs) some digits = (and_parts (is_ascii_digit c) (all_ascii_digits cs) digits).0
