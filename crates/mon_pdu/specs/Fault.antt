-- The faults of a message.
use Rattle.std.specs.Prelude.{ℕ, List, codes}
use Rattle.mon_ber.specs.declared.fault.BerFault.{BerFault}
use Rattle.mon_ber.specs.declared.fault.BerFault.TheVariants as ber
use Rattle.mon_pdu.specs.declared.fault.PduFault.{PduFault}
use Rattle.mon_pdu.specs.declared.fault.PduFault.TheVariants as pdu

-- the fault of a message that a fault of a value or of an element becomes
abbrev pub pdu_fault : BerFault → PduFault
pdu_fault ber.OutOfMemory = pdu.OutOfMemory
pdu_fault ber.Truncated = pdu.Truncated
pdu_fault ber.BadTag = pdu.BadTag
pdu_fault ber.BadLength = pdu.BadLength
pdu_fault ber.OutOfRange = pdu.OutOfRange
pdu_fault ber.BadOid = pdu.BadOid

-- the number by which a printed line names a fault
abbrev pub number_of : PduFault → ℕ
number_of pdu.OutOfMemory = 1
number_of pdu.Truncated = 2
number_of pdu.BadTag = 3
number_of pdu.BadLength = 4
number_of pdu.OutOfRange = 5
number_of pdu.BadOid = 6
number_of (pdu.BadVersion v) = 7
number_of (pdu.UnknownPdu t) = 8

-- the name of a fault in a printed line
abbrev pub name_of : PduFault → List ℕ
name_of pdu.OutOfMemory = codes "OutOfMemory"
name_of pdu.Truncated = codes "Truncated"
name_of pdu.BadTag = codes "BadTag"
name_of pdu.BadLength = codes "BadLength"
name_of pdu.OutOfRange = codes "OutOfRange"
name_of pdu.BadOid = codes "BadOid"
name_of (pdu.BadVersion v) = codes "BadVersion"
name_of (pdu.UnknownPdu t) = codes "UnknownPdu"
