-- Which bytes are a word: a descriptor of RFC 2578 section 3.1, and underscores, which modules in
-- use have.
use Rattle.std.specs.Prelude.{◌⊎◌, ◌≡◌, ℕ, ◌+◌, ◌<◌, List, length, slice_index, Bool, ◌||◌, ◌==◌}
use Rattle.std.specs.Prelude.{IsTrue}
use Rattle.std.specs.Char.{is_ascii_alphabetic, is_ascii_digit}

-- a letter, a digit or an underscore
abbrev pub is_part : ℕ → Bool
is_part b = (is_ascii_alphabetic b || is_ascii_digit b) || b == 95

-- at this place a word goes on: there is a part of a word, or a hyphen just before one
abbrev pub GoesOn : List ℕ → ℕ → Type 0
GoesOn w i = IsTrue (is_part (slice_index w i)) ⊎ ((slice_index w i ≡ 45)
    × IsTrue (is_part (slice_index w (i + 1))))

-- a letter, and then letters, digits, underscores and single hyphens, none of them last
pub record IsWord (w : List ℕ) : Type 0 where
  pub letter : IsTrue (is_ascii_alphabetic (slice_index w 0))
  pub goes_on : (i : ℕ) → i < length w → GoesOn w i
