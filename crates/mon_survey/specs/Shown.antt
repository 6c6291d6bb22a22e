-- Which octets a comment may have.
use Rattle.std.specs.Prelude.{◌≢◌, ◌≤◌, ℕ, List, length}
use Rattle.std.specs.List.{All}

-- an octet that ends no comment: 20 to 7E, and no quote
pub record IsShown (b : ℕ) : Type 0 where
  pub low : 32 ≤ b
  pub high : b ≤ 126
  pub unquoted : b ≢ 34

-- at most 64 such octets
pub record StaysInComment (text : List ℕ) : Type 0 where
  pub shown : All IsShown text
  pub short : length text ≤ 64
