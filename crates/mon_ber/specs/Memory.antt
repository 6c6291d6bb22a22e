-- What is held without heap memory.
use Rattle.std.specs.Prelude.{◌≤◌, length}
use Rattle.mon_ber.specs.declared.value.Value.{Value}
use Rattle.mon_ber.specs.declared.value.Value.TheVariants.{
  Integer,
  Octets,
  Null,
  Name,
  IpAddress,
  Counter32,
  Gauge32,
  TimeTicks,
  Opaque,
  Counter64,
  NoSuchObject,
  NoSuchInstance,
  EndOfMibView,
}

-- the value is held without heap memory: no octets, and at most 16 sub-identifiers
abbrev pub IsInline : Value → Type 0
IsInline (Integer z) = Unit {0}
IsInline (Octets o) = ⊥
IsInline Null = Unit {0}
IsInline (Name o) = length o ≤ 16
IsInline (IpAddress a) = Unit {0}
IsInline (Counter32 n) = Unit {0}
IsInline (Gauge32 n) = Unit {0}
IsInline (TimeTicks n) = Unit {0}
IsInline (Opaque o) = ⊥
IsInline (Counter64 n) = Unit {0}
IsInline NoSuchObject = Unit {0}
IsInline NoSuchInstance = Unit {0}
IsInline EndOfMibView = Unit {0}
