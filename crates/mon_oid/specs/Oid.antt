-- Which lists of numbers are identifiers, and how they are written.
use Rattle.std.specs.Prelude.{◌≡◌, ℕ, ◌<◌, ◌≤◌, ◌^◌, ◌⊎◌, List, ◌∷◌, ◌++◌, length, map, slice_index}
use Rattle.std.specs.Prelude.{All, decimal}
use Rattle.std.specs.List.{join_with_byte}
use Rattle.mon_oid.specs.declared.fault.OidFault.{OidFault}
use Rattle.mon_oid.specs.declared.fault.OidFault.TheVariants.{OutOfMemory, TooShort, TooLong}
use Rattle.mon_oid.specs.declared.fault.OidFault.TheVariants.{BadFirst, BadText}

-- the first is 0, 1 or 2, and the second is at most 39 under 0 and 1 (X.690 8.19.4)
pub record IsRooted (parts : List ℕ) : Type 0 where
  pub first : slice_index parts 0 ≤ 2
  pub second : slice_index parts 0 < 2 → slice_index parts 1 ≤ 39

-- an object identifier: 2 to 128 sub-identifiers of 32 bits (RFC 2578 section 3.5)
pub record IsOid (parts : List ℕ) : Type 0 where
  pub long : 2 ≤ length parts
  pub short : length parts ≤ 128
  pub rooted : IsRooted parts
  pub small : All (λ part. part < 2 ^ 32) parts

-- all begins with the whole of part
abbrev pub IsPrefix : List ℕ → List ℕ → Type 0
IsPrefix part all = (rest : List ℕ) × (part ++ rest ≡ all)

-- a comes before b: after what they share, a has no number, or one that is less than b's
abbrev pub ComesBefore : List ℕ → List ℕ → Type 0
ComesBefore a b =
    (shared : List ℕ) × (y : ℕ) × (ys : List ℕ) × (b ≡ shared ++ y ∷ ys)
    × ((a ≡ shared) ⊎ ((x : ℕ) × (xs : List ℕ) × (a ≡ shared ++ x ∷ xs) × (x < y)))

-- the numbers in decimal, with dots between them
abbrev pub dotted : List ℕ → List ℕ
dotted parts = join_with_byte 46 (map decimal parts)

-- at least one number, each of 32 bits
pub record AreNumbers (parts : List ℕ) : Type 0 where
  pub some : 0 < length parts
  pub small : All (λ part. part < 2 ^ 32) parts

-- the text is the numbers in decimal with dots between them, and nothing else
pub record Spells (text parts : List ℕ) : Type 0 where
  pub numbers : AreNumbers parts
  pub is : text ≡ dotted parts

-- why a text is no identifier: it spells no numbers, or numbers that are none
abbrev pub IsFaultOfText : OidFault → List ℕ → Type 0
IsFaultOfText OutOfMemory text = Unit {0}
IsFaultOfText TooShort text = (parts : List ℕ) × Spells text parts × (length parts < 2)
IsFaultOfText TooLong text = (parts : List ℕ) × Spells text parts × (128 < length parts)
IsFaultOfText BadFirst text = (parts : List ℕ) × Spells text parts × (2 ≤ length parts)
    × (length parts ≤ 128) × ¬ (IsRooted parts)
IsFaultOfText BadText text = (parts : List ℕ) → ¬ (Spells text parts)

-- why a text spells no numbers
abbrev pub IsFaultOfNumbers : OidFault → List ℕ → Type 0
IsFaultOfNumbers OutOfMemory text = Unit {0}
IsFaultOfNumbers TooShort text = ⊥
IsFaultOfNumbers TooLong text = ⊥
IsFaultOfNumbers BadFirst text = ⊥
IsFaultOfNumbers BadText text = (parts : List ℕ) → ¬ (Spells text parts)
