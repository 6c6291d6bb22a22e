-- How a rate a second is written for people: three digits, rounded half up, with a prefix of SI
-- (BIPM, The International System of Units, 9th edition, table 7).
use Rattle.std.specs.Prelude.{ℕ, zero, suc, ◌+◌, ◌-◌, ◌*◌, ◌/◌, ◌%◌, ◌^◌, max, nat_le, ◌==◌, List}
use Rattle.std.specs.Prelude.{[], ◌∷◌, ◌++◌, codes, decimal, if◌then◌else◌}
use Rattle.mon_display.specs.declared.rate.Unit.{Unit}
use Rattle.mon_display.specs.declared.rate.Unit.TheVariants.{Bits, Each}

-- how many steps a number is, to the nearest; one more from half a step on
unfoldable pub rounded : ℕ → ℕ → ℕ
rounded n step = n / step + (if nat_le step (2 * (n % step)) then 1 else 0)

-- of this many exponents from k on the first by whose power of ten the number is at most 999 steps;
-- else the one after them
unfoldable pub exponent_from : ℕ → ℕ → ℕ → ℕ
exponent_from zero k n = k
exponent_from (suc more) k n = if nat_le (rounded n (10 ^ k)) 999 then k
    else exponent_from more (k + 1) n

-- the exponent of the last digit that is written of a number; 30 is the greatest
unfoldable pub exponent_of : ℕ → ℕ
exponent_of n = exponent_from 30 0 n

-- the digits that are written of it, at most three below 10 ^ 30 * 999
unfoldable pub digits_of : ℕ → ℕ
digits_of n = rounded n (10 ^ exponent_of n)

-- the last digit of a number
abbrev pub last_digit : ℕ → List ℕ
last_digit m = (48 + m % 10) ∷ []

-- the digits as a number with this many places after its point, at most 3
abbrev pub pointed : ℕ → ℕ → List ℕ
pointed places m =
    if places == 0 then decimal m
    else if places == 1 then decimal (m / 10) ++ codes "." ++ last_digit m
    else if places == 2 then decimal (m / 100) ++ codes "." ++ last_digit (m / 10) ++ last_digit m
    else decimal (m / 1000) ++ codes "." ++ last_digit (m / 100) ++ last_digit (m / 10)
    ++ last_digit m

-- how many places are after the point, by the exponent of the last digit in thousandths
abbrev pub places_of : ℕ → ℕ
places_of zero = 3
places_of (suc k) = 2 - k % 3

-- the prefix by how many thousands it means
abbrev pub prefix_text : ℕ → List ℕ
prefix_text n =
    if n == 0 then [] else if n == 1 then codes "k" else if n == 2 then codes "M" else if n == 3
    then codes "G" else if n == 4 then codes "T"
    else if n == 5 then codes "P" else if n == 6 then codes "E" else if n == 7 then codes "Z"
    else if n == 8 then codes "Y" else codes "R"

-- the unit; of what has none only that it is a second
abbrev pub unit_text : Unit → List ℕ
unit_text Bits = codes "bit/s"
unit_text Each = codes "/s"

-- a rate by its digits and the exponent of the last one
abbrev pub scaled_text : Unit → ℕ → ℕ → List ℕ
scaled_text unit digits exponent = pointed (places_of exponent) digits ++ codes " "
    ++ prefix_text ((exponent - 1) / 3) ++ unit_text unit

-- a rate in thousandths of the unit a second
abbrev pub rate_text : Unit → ℕ → List ℕ
rate_text unit zero = codes "0 " ++ unit_text unit
rate_text unit (suc n) = scaled_text unit (digits_of (suc n)) (exponent_of (suc n))

-- bits a second in thousandths as a part of a speed in bits a second, in percent with one place; a
-- speed of 0 counts as 1
abbrev pub percent_text : ℕ → ℕ → List ℕ
percent_text n speed = pointed 1 (rounded n (max speed 1)) ++ codes " %"
