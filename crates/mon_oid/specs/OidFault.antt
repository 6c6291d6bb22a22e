-- The faults of an identifier.
use Rattle.std.specs.Prelude.{ℕ, List, codes}
use Rattle.mon_oid.specs.declared.fault.OidFault.{OidFault}
use Rattle.mon_oid.specs.declared.fault.OidFault.TheVariants.{OutOfMemory, TooShort, TooLong}
use Rattle.mon_oid.specs.declared.fault.OidFault.TheVariants.{BadFirst, BadText}

-- the number of a fault
abbrev pub number_of : OidFault → ℕ
number_of OutOfMemory = 1
number_of TooShort = 2
number_of TooLong = 3
number_of BadFirst = 4
number_of BadText = 5

-- the name of a fault
abbrev pub name_of : OidFault → List ℕ
name_of OutOfMemory = codes "OutOfMemory"
name_of TooShort = codes "TooShort"
name_of TooLong = codes "TooLong"
name_of BadFirst = codes "BadFirst"
name_of BadText = codes "BadText"
