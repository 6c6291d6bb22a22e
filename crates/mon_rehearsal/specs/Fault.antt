-- The faults of a script and of a rehearsal.
use Rattle.std.specs.Prelude.{ℕ, List, codes}
use Rattle.mon_station.specs.Fault.{Told}
use Rattle.mon_world.specs.Fault as world
use Rattle.mon_world.specs.declared.fault.WorldFault.{WorldFault}
use Rattle.mon_world.specs.declared.fault.WorldFault.TheVariants as world_fault
use Rattle.mon_rehearsal.specs.declared.fault.ScriptFault.{ScriptFault}
use Rattle.mon_rehearsal.specs.declared.fault.ScriptFault.TheVariants as script
use Rattle.mon_rehearsal.specs.declared.fault.RehearsalFault.{RehearsalFault}
use Rattle.mon_rehearsal.specs.declared.fault.RehearsalFault.TheVariants as rehearsal

-- the number of a script's fault
abbrev pub number_of : ScriptFault → ℕ
number_of script.OutOfMemory = 1
number_of (script.BadScript line) = 7

-- the name of a script's fault
abbrev pub name_of : ScriptFault → List ℕ
name_of script.OutOfMemory = codes "OutOfMemory"
name_of (script.BadScript line) = codes "BadScript"

-- the innermost fault: the world's or a station's, if the stations were not opened; a script's is
-- one of a text
abbrev pub innermost_of : RehearsalFault → Told
innermost_of rehearsal.OutOfMemory = record {
  part = codes "mon_app";
  number = number_of
      script.OutOfMemory;
  name = name_of script.OutOfMemory;
}
innermost_of (rehearsal.BadScript line) = record {
  part = codes "mon_app";
  number = number_of
      (script.BadScript line);
  name = name_of (script.BadScript line);
}
innermost_of (rehearsal.World fault) = world.innermost_of fault

-- a script's fault as the rehearsal's
abbrev pub rehearsal_fault : ScriptFault → RehearsalFault
rehearsal_fault script.OutOfMemory = rehearsal.OutOfMemory
rehearsal_fault (script.BadScript line) = rehearsal.BadScript line

-- a world's fault as the rehearsal's: its lack of memory is the rehearsal's own
abbrev pub not_opened : WorldFault → RehearsalFault
not_opened world_fault.OutOfMemory = rehearsal.OutOfMemory
not_opened fault = rehearsal.World fault
