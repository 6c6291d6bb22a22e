-- The fault of an agent.
use Rattle.std.specs.Prelude.{ℕ, List, codes}
use Rattle.mon_agent.specs.declared.fault.AgentFault.{AgentFault}
use Rattle.mon_agent.specs.declared.fault.AgentFault.TheVariants.{OutOfMemory}

-- the number of a fault on a printed line
abbrev pub number_of : AgentFault → ℕ
number_of OutOfMemory = 1

-- the name of a fault on a printed line
abbrev pub name_of : AgentFault → List ℕ
name_of OutOfMemory = codes "OutOfMemory"
