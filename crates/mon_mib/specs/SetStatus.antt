-- The numbers of error statuses (RFC 3416 section 3), and of the faults of a Set.
use Rattle.std.specs.Prelude.{ℕ, ℤ, pos, List, codes}
use Rattle.mon_mib.specs.declared.set_status.SetStatus.{SetStatus}
use Rattle.mon_mib.specs.declared.set_status.SetStatus.TheVariants.{NoAccess, WrongType}
use Rattle.mon_mib.specs.declared.set_status.SetStatus.TheVariants.{WrongLength, WrongValue}
use Rattle.mon_mib.specs.declared.set_status.SetStatus.TheVariants.{NoCreation, NotWritable}
use Rattle.mon_mib.specs.declared.set_fault.SetFault.{SetFault}
use Rattle.mon_mib.specs.declared.set_fault.SetFault.TheVariants.{OutOfMemory, Refused}

-- error-status
abbrev pub status_number : SetStatus → ℤ
status_number NoAccess = pos 6
status_number WrongType = pos 7
status_number WrongLength = pos 8
status_number WrongValue = pos 10
status_number NoCreation = pos 11
status_number NotWritable = pos 17

-- the number by which a printed line names a fault
abbrev pub number_of : SetFault → ℕ
number_of OutOfMemory = 1
number_of (Refused status index) = 2

-- the name of a fault in a printed line
abbrev pub name_of : SetFault → List ℕ
name_of OutOfMemory = codes "OutOfMemory"
name_of (Refused status index) = codes "Refused"
