-- What is printed for why an instance has no new sample.
use Rattle.std.specs.Prelude.{ℕ, List, ◌++◌, codes, decimal}
use Rattle.mon_ber.specs.declared.tag.Tag.{Tag}
use Rattle.mon_ber.specs.declared.tag.Tag.TheVariants.{
  Integer,
  OctetString,
  Null,
  ObjectIdentifier,
  IpAddress,
  Counter32,
  Gauge32,
  TimeTicks,
  Opaque,
  Counter64,
  NoSuchObject,
  NoSuchInstance,
  EndOfMibView,
}
use Rattle.mon_reasons.specs.declared.reason.Reason.{Reason}
use Rattle.mon_reasons.specs.declared.reason.Reason.TheVariants as reason

-- the name of a kind of values (RFC 2578 section 7.1, RFC 3416 section 3)
abbrev pub kind_text : Tag → List ℕ
kind_text Integer = codes "INTEGER"
kind_text OctetString = codes "OCTET STRING"
kind_text Null = codes "NULL"
kind_text ObjectIdentifier = codes "OBJECT IDENTIFIER"
kind_text IpAddress = codes "IpAddress"
kind_text Counter32 = codes "Counter32"
kind_text Gauge32 = codes "Gauge32"
kind_text TimeTicks = codes "TimeTicks"
kind_text Opaque = codes "Opaque"
kind_text Counter64 = codes "Counter64"
kind_text NoSuchObject = codes "noSuchObject"
kind_text NoSuchInstance = codes "noSuchInstance"
kind_text EndOfMibView = codes "endOfMibView"

-- why the value of an instance is no sample
abbrev pub value_text : Tag → List ℕ
value_text NoSuchObject = codes "the agent has no such object"
value_text NoSuchInstance = codes "the agent has no such instance"
value_text kind = codes "its value is of the kind " ++ kind_text kind

-- why an instance has no new sample
abbrev pub reason_text : Reason → List ℕ
reason_text (reason.Value kind) = value_text kind
reason_text (reason.Discontinuity kind) = codes "the value of its mark is of the kind "
    ++ kind_text kind
reason_text reason.NoDiscontinuity = codes "its mark has no value"
reason_text (reason.Clock boots time) =
    codes "the agent's clock, " ++ (decimal boots ++ (codes ":"
    ++ (decimal time ++ codes ", is not past that of its newest sample")))
