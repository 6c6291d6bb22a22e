-- The faults of labels.
use Rattle.std.specs.Prelude.{ℕ, List, codes}
use Rattle.mon_labels.specs.declared.fault.LabelsFault.{LabelsFault}
use Rattle.mon_labels.specs.declared.fault.LabelsFault.TheVariants.{OutOfMemory, NotToml}
use Rattle.mon_labels.specs.declared.fault.LabelsFault.TheVariants.{UnknownKey, Missing, BadValue}
use Rattle.mon_labels.specs.declared.fault.LabelsFault.TheVariants.{Twice, TooMany}

-- the number of a fault
abbrev pub number_of : LabelsFault → ℕ
number_of OutOfMemory = 1
number_of (NotToml from) = 2
number_of (UnknownKey p) = 3
number_of (Missing p k) = 4
number_of (BadValue p k) = 5
number_of (Twice n) = 6
number_of TooMany = 7

-- the name of a fault on a printed line
abbrev pub name_of : LabelsFault → List ℕ
name_of OutOfMemory = codes "OutOfMemory"
name_of (NotToml from) = codes "NotToml"
name_of (UnknownKey p) = codes "UnknownKey"
name_of (Missing p k) = codes "Missing"
name_of (BadValue p k) = codes "BadValue"
name_of (Twice n) = codes "Twice"
name_of TooMany = codes "TooMany"
