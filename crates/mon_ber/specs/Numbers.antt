-- Which octets spell a number or an object identifier.
use Rattle.std.specs.Prelude.{◌≡◌, ◌≢◌, ℕ, suc, ◌+◌, ◌-◌, ◌*◌, ◌^◌, ◌<◌, ◌≤◌, ℤ, pos, negsuc, List}
use Rattle.std.specs.Prelude.{[], ◌∷◌, length, slice_index}
use Rattle.mon_oid.specs.Oid.{IsOid}
use Rattle.mon_ber.specs.Sequence.{AreSpelled}

-- the number of which these are the digits in base 256, the most significant first
abbrev pub big_endian : List ℕ → ℕ
big_endian [] = 0
big_endian (b ∷ bs) = b * 256 ^ length bs + big_endian bs

-- two's complement: from 128 on the first octet says that 256 to the number of octets is subtracted
-- (X.690 8.3.3)
abbrev pub IsTwosComplement : List ℕ → ℤ → Type 0
IsTwosComplement [] z = ⊥
IsTwosComplement (b ∷ bs) (pos n) = (b < 128) × (big_endian (b ∷ bs) ≡ n)
IsTwosComplement (b ∷ bs) (negsuc n) = (128 ≤ b) × (big_endian (b ∷ bs) + suc n
    ≡ 256 ^ length (b ∷ bs))

-- a number of 1 to 9 octets, also more than it needs
pub record IsNumber (bytes : List ℕ) (z : ℤ) : Type 0 where
  pub value : IsTwosComplement bytes z
  pub short : length bytes ≤ 9

-- digits in base 128, the most significant first: all octets but the last have the high bit (X.690
-- 8.19.2)
abbrev pub IsBase128 : List ℕ → ℕ → Type 0
IsBase128 [] n = ⊥
IsBase128 (b ∷ []) n = (b < 128) × (n ≡ b)
IsBase128 (b ∷ c ∷ bs) n = (128 ≤ b) × (low : ℕ) × (n ≡ (b - 128) * 128 ^ length (c ∷ bs) + low)
    × IsBase128 (c ∷ bs) low

-- such a number does not begin with 0x80, a leading zero
pub record IsSubidentifier (bytes : List ℕ) (n : ℕ) : Type 0 where
  pub value : IsBase128 bytes n
  pub begins : slice_index bytes 0 ≢ 128

-- such numbers, one after the other
abbrev pub AreSubidentifiers : List ℕ → List ℕ → Type 0
AreSubidentifiers = AreSpelled IsSubidentifier

-- the numbers that spell an identifier: its first two sub-identifiers are one of them (X.690
-- 8.19.4)
abbrev pub encoded : List ℕ → List ℕ
encoded [] = []
encoded (a ∷ []) = a ∷ []
encoded (a ∷ b ∷ rest) = (40 * a + b) ∷ rest

-- the contents of an OBJECT IDENTIFIER (X.690 8.19)
pub record IsName (bytes parts : List ℕ) : Type 0 where
  pub valid : IsOid parts
  pub spelled : AreSubidentifiers bytes (encoded parts)
