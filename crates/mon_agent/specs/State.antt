-- What contracts see of an agent.
use Rattle.mon_vacm.specs.Tables.{PolicyTables}
use Rattle.mon_mib.specs.declared.counters.Counters.{Counters}
use Rattle.mon_mib.specs.declared.settings.Settings.{Settings}
use Rattle.mon_mib.specs.Map.{map_counters, map_device, map_settings}
use Rattle.mon_agent.specs.declared.agent.Agent.{Agent}

-- which community may do what with which names
abbrev pub policy_of : {D : Type 0} → Agent D → PolicyTables
policy_of agent = agent.policy

-- what it serves as given at the start
abbrev pub settings_of : {D : Type 0} → Agent D → Settings
settings_of agent = map_settings agent.mib

-- what it has counted
abbrev pub counters_of : {D : Type 0} → Agent D → Counters
counters_of agent = map_counters agent.mib

-- its device
abbrev pub device_of : {D : Type 0} → Agent D → D
device_of agent = map_device agent.mib
