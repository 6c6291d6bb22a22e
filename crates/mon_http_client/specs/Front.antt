-- Where a head ends among octets.
use Rattle.std.specs.Prelude.{ℕ, ◌+◌, Bool, ◌&&◌, ◌||◌, List, [], ◌∷◌, Option, Some, None}
use Rattle.std.specs.Prelude.{option_map, ◌==◌, if◌then◌else◌}

-- after this octet, the line has no octet but CR so far; it had none before if `blank`
abbrev pub blank_after : Bool → ℕ → Bool
blank_after blank octet = (octet == 10) || (blank && (octet == 13))

-- The number of octets up to the end of the first empty line (RFC 9112, section 2.1). A line ends
-- in LF, and is empty if it has no octet but CR. The octets go on with a line that has no octet but
-- CR so far if `blank`.
abbrev pub head_length : Bool → List ℕ → Option ℕ
head_length blank [] = None
head_length blank (octet ∷ octets) =
    if (octet == 10) && blank then Some 1
    else option_map (λ n. n + 1) (head_length (blank_after blank octet) octets)
