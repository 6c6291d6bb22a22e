-- The faults of a watch.
use Rattle.std.specs.Prelude.{ℕ, List, codes}
use Rattle.mon_board.specs.declared.fault.WatchFault.{WatchFault}
use Rattle.mon_board.specs.declared.fault.WatchFault.TheVariants.{BadWindow, BadInstances, BadRules}

-- the number of a fault
abbrev pub number_of : WatchFault → ℕ
number_of BadWindow = 2
number_of BadInstances = 3
number_of BadRules = 4

-- the name of a fault
abbrev pub name_of : WatchFault → List ℕ
name_of BadWindow = codes "BadWindow"
name_of BadInstances = codes "BadInstances"
name_of BadRules = codes "BadRules"
