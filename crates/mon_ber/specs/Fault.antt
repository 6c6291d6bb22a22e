-- The faults of reading and writing.
use Rattle.std.specs.Prelude.{ℕ, List, codes}
use Rattle.mon_ber.specs.declared.fault.BerFault.{BerFault}
use Rattle.mon_ber.specs.declared.fault.BerFault.TheVariants.{OutOfMemory, Truncated, BadTag}
use Rattle.mon_ber.specs.declared.fault.BerFault.TheVariants.{BadLength, OutOfRange, BadOid}

-- the number of a fault
abbrev pub number_of : BerFault → ℕ
number_of OutOfMemory = 1
number_of Truncated = 2
number_of BadTag = 3
number_of BadLength = 4
number_of OutOfRange = 5
number_of BadOid = 6

-- the name of a fault
abbrev pub name_of : BerFault → List ℕ
name_of OutOfMemory = codes "OutOfMemory"
name_of Truncated = codes "Truncated"
name_of BadTag = codes "BadTag"
name_of BadLength = codes "BadLength"
name_of OutOfRange = codes "OutOfRange"
name_of BadOid = codes "BadOid"
