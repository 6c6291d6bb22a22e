-- The faults of names.
use Rattle.std.specs.Prelude.{ℕ, List, codes}
use Rattle.mon_smi.specs.declared.fault.NamesFault.{NamesFault}
use Rattle.mon_smi.specs.declared.fault.NamesFault.TheVariants.{OutOfMemory, Duplicate, Formless}
use Rattle.mon_smi.specs.declared.fault.NamesFault.TheVariants.{Unknown, Cycle, TooDeep}
use Rattle.mon_smi.specs.declared.fault.NamesFault.TheVariants.{BadIdentifier}

-- the number of a fault
abbrev pub number_of_names : NamesFault → ℕ
number_of_names OutOfMemory = 1
number_of_names (Duplicate clash) = 4
number_of_names (Formless form) = 5
number_of_names Unknown = 5
number_of_names Cycle = 6
number_of_names TooDeep = 7
number_of_names BadIdentifier = 8

-- the name of a fault
abbrev pub name_of_names : NamesFault → List ℕ
name_of_names OutOfMemory = codes "OutOfMemory"
name_of_names (Duplicate clash) = codes "Duplicate"
name_of_names (Formless form) = codes "Unknown"
name_of_names Unknown = codes "Unknown"
name_of_names Cycle = codes "Cycle"
name_of_names TooDeep = codes "TooDeep"
name_of_names BadIdentifier = codes "BadIdentifier"
