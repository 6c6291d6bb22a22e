-- The layouts of fields. All numbers are big-endian.
use Rattle.std.specs.Prelude.{ℕ, ◌^◌, Bool, List, ◌∷◌, ◌++◌, length, nat_lt, ◌==◌, ◌&&◌}
use Rattle.std.specs.List.{flat_map, AllByRecursion}
use Rattle.std.specs.List.Sorted.{IsStrictlySortedBy}
use Rattle.std.specs.Int.{w32, to_be_bytes}
use Rattle.std.specs.Ordering.{nat_cmp}
use Rattle.mon_sample.specs.Kind.{kind_tag, holds}
use Rattle.mon_sample.specs.Key.{boots_of, time_of, tag_of, kind_of, sample_value, IsSample}
use Rattle.mon_sample.specs.Record.{octets_of}

-- numbers, four octets each
abbrev pub numbers_octets : List ℕ → List ℕ
numbers_octets numbers = flat_map (to_be_bytes w32) numbers

-- an instance: the length of the engine id, its octets, the count of the name's sub-identifiers,
-- these of four octets each
unfoldable pub instance_octets : List ℕ → List ℕ → List ℕ
instance_octets engine name = length engine ∷ engine ++ (length name ∷ numbers_octets name)

-- samples, a record of 21 octets each
abbrev pub samples_octets : List ℕ → List ℕ
samples_octets samples = flat_map octets_of samples

-- these numbers are samples, each below the next
pub record AreSamples (samples : List ℕ) : Type 0 where
  pub each : AllByRecursion IsSample samples
  pub rising : IsStrictlySortedBy nat_cmp samples

-- whether a number is a sample's: tag, boots, time and value are in range
unfoldable pub is_sample_number : ℕ → Bool
is_sample_number k = (kind_tag (kind_of k) == tag_of k) && (nat_lt (boots_of k) (2 ^ 31)
    && (nat_lt (time_of k) (2 ^ 31) && holds (kind_of k) (sample_value k)))
