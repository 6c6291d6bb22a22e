-- The faults of a device.
use Rattle.std.specs.Prelude.{ℕ, List, codes}
use Rattle.mon_mib.specs.declared.fault.DeviceFault.{DeviceFault}
use Rattle.mon_mib.specs.declared.fault.DeviceFault.TheVariants.{BadIndex, Failed}

-- the number by which a printed line names a fault
abbrev pub number_of : DeviceFault → ℕ
number_of BadIndex = 2
number_of Failed = 3

-- the name of a fault in a printed line
abbrev pub name_of : DeviceFault → List ℕ
name_of BadIndex = codes "BadIndex"
name_of Failed = codes "Failed"
