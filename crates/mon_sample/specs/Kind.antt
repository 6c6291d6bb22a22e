-- The kinds of sampled values.
use Rattle.std.specs.Prelude.{ℕ, ℤ, pos, ◌-◌, ◌^◌, Bool, nat_lt, nat_le, ◌||◌, ◌&&◌, ◌==◌}
use Rattle.std.specs.Prelude.{if◌then◌else◌, List, codes}
use Rattle.std.specs.Int.{w64, cast_signed}
use Rattle.mon_sample.specs.declared.kind.Kind.{Kind}
use Rattle.mon_sample.specs.declared.kind.Kind.TheVariants.{Integer, Counter32, Gauge32, TimeTicks}
use Rattle.mon_sample.specs.declared.kind.Kind.TheVariants.{Counter64}

-- the BER tag of a kind (RFC 2578 section 2, X.690 8.1.2)
abbrev pub kind_tag : Kind → ℕ
kind_tag Integer = 2
kind_tag Counter32 = 65
kind_tag Gauge32 = 66
kind_tag TimeTicks = 67
kind_tag Counter64 = 70

-- the kind of a tag; of no kind's tag it is Counter64
unfoldable pub kind_at : ℕ → Kind
kind_at tag = if tag == 2 then Integer else if tag == 65 then Counter32 else if tag == 66
    then Gauge32 else if tag == 67 then TimeTicks else Counter64

-- the name of a kind in a printed line (RFC 2578 section 2)
abbrev pub kind_name : Kind → List ℕ
kind_name Integer = codes "Integer"
kind_name Counter32 = codes "Counter32"
kind_name Gauge32 = codes "Gauge32"
kind_name TimeTicks = codes "TimeTicks"
kind_name Counter64 = codes "Counter64"

-- whether a value of the kind is n modulo 2 ^ 64 (RFC 2578 sections 7.1.1, 7.1.6, 7.1.7, 7.1.8,
-- 7.1.10)
abbrev pub holds : Kind → ℕ → Bool
holds Integer n = nat_lt n (2 ^ 31) || (nat_le (2 ^ 64 - 2 ^ 31) n && nat_lt n (2 ^ 64))
holds Counter32 n = nat_lt n (2 ^ 32)
holds Gauge32 n = nat_lt n (2 ^ 32)
holds TimeTicks n = nat_lt n (2 ^ 32)
holds Counter64 n = nat_lt n (2 ^ 64)

-- the number that n modulo 2 ^ 64 means: an INTEGER is signed, in two's complement (RFC 2578
-- section 7.1.1)
abbrev pub number_of : Kind → ℕ → ℤ
number_of Integer n = cast_signed w64 n
number_of Counter32 n = pos n
number_of Gauge32 n = pos n
number_of TimeTicks n = pos n
number_of Counter64 n = pos n
