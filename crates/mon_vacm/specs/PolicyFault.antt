-- The faults of tables.
use Rattle.std.specs.Prelude.{ℕ, List, codes}
use Rattle.mon_vacm.specs.declared.fault.PolicyFault.{PolicyFault}
use Rattle.mon_vacm.specs.declared.fault.PolicyFault.TheVariants.{DuplicateCommunity, UnknownView}
use Rattle.mon_vacm.specs.declared.fault.PolicyFault.TheVariants.{DuplicateFamily}

-- the number by which a printed line names a fault
abbrev pub number_of : PolicyFault → ℕ
number_of DuplicateCommunity = 2
number_of UnknownView = 3
number_of DuplicateFamily = 4

-- the name of a fault in a printed line
abbrev pub name_of : PolicyFault → List ℕ
name_of DuplicateCommunity = codes "DuplicateCommunity"
name_of UnknownView = codes "UnknownView"
name_of DuplicateFamily = codes "DuplicateFamily"
