-- The fields of a line.
use Rattle.std.specs.Prelude.{ℕ, List, [], ◌∷◌, ◌==◌, if◌then◌else◌, Option, Some, None, Result, Ok}
use Rattle.std.specs.Prelude.{Err, decimal, nat_lt, ◌&&◌}
use Rattle.std.specs.Str.{bytes_eq}
use Rattle.std.specs.Str.Parse.{digits_value}
use Rattle.hex.specs.Hex.{decode_of}

-- an octet before what precedes a mark
abbrev pub with_first : ℕ → Option (List ℕ × List ℕ) → Option (List ℕ × List ℕ)
with_first c None = None
with_first c (Some parts) = Some (c ∷ parts.0, parts.1)

-- what precedes the first octet of this value, and what follows it
abbrev pub cut : ℕ → List ℕ → Option (List ℕ × List ℕ)
cut mark [] = None
cut mark (c ∷ cs) = if c == mark then Some ([], cs) else with_first c (cut mark cs)

-- what follows from a field that is there
abbrev pub and_then : {A B : Type 0} → Option A → (A → Option B) → Option B
and_then None f = None
and_then (Some x) f = f x

-- the number below 2^32 that a text is in decimal, without leading zeros
unfoldable pub number_in : List ℕ → Option ℕ
number_in text =
    if nat_lt (digits_value 10 text) 4294967296 && bytes_eq (decimal (digits_value 10 text)) text
    then Some (digits_value 10 text) else None

-- two numbers with a blank between them
unfoldable pub numbers_in : List ℕ → Option (ℕ × ℕ)
numbers_in text = and_then (cut 32 text) (λ fields. and_then (number_in fields.0)
    (λ first. and_then (number_in fields.1) (λ second. Some (first, second))))

-- octets, where there are any
abbrev pub some_octets : List ℕ → Option (List ℕ)
some_octets [] = None
some_octets (c ∷ cs) = Some (c ∷ cs)

-- what hex digits spelled, where there are any octets
abbrev pub decoded : {E : Type 0} → Result (List ℕ) E → Option (List ℕ)
decoded (Ok octets) = some_octets octets
decoded (Err e) = None

-- the octets that hex digits in either case spell: at least one
abbrev pub octets_in : List ℕ → Option (List ℕ)
octets_in text = decoded (decode_of text)
