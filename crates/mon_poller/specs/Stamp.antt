-- When a response was made and whose it is (RFC 3411 section 5), and which values are samples.
use Rattle.std.specs.Prelude.{ℕ, pos, List, [], ◌∷◌, Option, Some, None}
use Rattle.std.specs.Option.{option_map, option_and_then}
use Rattle.std.specs.Int.{w64, cast_unsigned}
use Rattle.mon_ber.specs.declared.value.Value.{Value}
use Rattle.mon_ber.specs.declared.value.Value.TheVariants.{Integer, Octets, Counter32, Gauge32}
use Rattle.mon_ber.specs.declared.value.Value.TheVariants.{TimeTicks, Counter64}
use Rattle.mon_sample.specs.declared.kind.Kind.{Kind}
use Rattle.mon_sample.specs.declared.kind.Kind.TheVariants as kinds

-- snmpEngineID.0 (RFC 3411 section 5)
abbrev pub engine_id_name : List ℕ
engine_id_name = 1 ∷ 3 ∷ 6 ∷ 1 ∷ 6 ∷ 3 ∷ 10 ∷ 2 ∷ 1 ∷ 1 ∷ 0 ∷ []

-- snmpEngineBoots.0 (RFC 3411 section 5)
abbrev pub engine_boots_name : List ℕ
engine_boots_name = 1 ∷ 3 ∷ 6 ∷ 1 ∷ 6 ∷ 3 ∷ 10 ∷ 2 ∷ 1 ∷ 2 ∷ 0 ∷ []

-- snmpEngineTime.0 (RFC 3411 section 5)
abbrev pub engine_time_name : List ℕ
engine_time_name = 1 ∷ 3 ∷ 6 ∷ 1 ∷ 6 ∷ 3 ∷ 10 ∷ 2 ∷ 1 ∷ 3 ∷ 0 ∷ []

-- whose response it is, and when it was made: snmpEngineID, snmpEngineBoots and snmpEngineTime (RFC
-- 3411 section 5)
pub record Stamp : Type 0 where
  pub engine : List ℕ
  pub boots : ℕ
  pub time : ℕ

-- the octets of an OCTET STRING
abbrev pub octets_in : Value → Option (List ℕ)
octets_in (Octets o) = Some o
octets_in _ = None

-- the number of an INTEGER that is not negative, so 0 to 2147483647
abbrev pub stamp_number : Value → Option ℕ
stamp_number (Integer (pos n)) = Some n
stamp_number _ = None

-- the stamp that three values are
abbrev pub stamp_of_values : Value → Value → Value → Option Stamp
stamp_of_values engine boots time =
    option_and_then (λ e. option_and_then (λ b. option_map (λ t. record
    { engine = e; boots = b; time = t }) (stamp_number time)) (stamp_number boots))
    (octets_in engine)

-- a value of a sampled kind: the kind, and the value modulo 2 ^ 64
abbrev pub sampled : Value → Option (Kind × ℕ)
sampled (Integer z) = Some (kinds.Integer, cast_unsigned w64 z)
sampled (Counter32 n) = Some (kinds.Counter32, n)
sampled (Gauge32 n) = Some (kinds.Gauge32, n)
sampled (TimeTicks n) = Some (kinds.TimeTicks, n)
sampled (Counter64 n) = Some (kinds.Counter64, n)
sampled _ = None

-- the value of a discontinuity indicator: a Counter32, Gauge32 or TimeTicks
abbrev pub discontinuity_in : Value → Option ℕ
discontinuity_in (Counter32 n) = Some n
discontinuity_in (Gauge32 n) = Some n
discontinuity_in (TimeTicks n) = Some n
discontinuity_in _ = None
