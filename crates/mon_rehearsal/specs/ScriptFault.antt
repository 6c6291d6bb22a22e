-- Why a script was not read.
use Rattle.std.specs.Prelude.{ℕ, List}
use Rattle.mon_world.specs.Fault.{IsFaultOfNew}
use Rattle.mon_rehearsal.specs.declared.fault.ScriptFault.{ScriptFault}
use Rattle.mon_rehearsal.specs.declared.fault.ScriptFault.TheVariants.{OutOfMemory, BadScript}
use Rattle.mon_rehearsal.specs.declared.fault.RehearsalFault.{RehearsalFault}
use Rattle.mon_rehearsal.specs.declared.fault.RehearsalFault.TheVariants as rehearsal
use Rattle.mon_rehearsal.specs.declared.script.ScriptStep.{ScriptStep}
use Rattle.mon_rehearsal.specs.Script.{AreSteps, IsFirstBad}

-- each of these lines, read in this way, is a step
abbrev pub IsScript : (List ℕ → ScriptStep → Type 0) → List (List ℕ) → Type 0
IsScript says lines = (steps : List ScriptStep) × AreSteps says lines steps

-- why a script of these lines, read in this way, was not read
abbrev pub IsFaultOfScript : (List ℕ → ScriptStep → Type 0) → List (List ℕ) → ScriptFault → Type 0
IsFaultOfScript says lines OutOfMemory = Unit {0}
IsFaultOfScript says lines (BadScript number) = IsFirstBad says lines number

-- why a script of these lines, read in this way, was not rehearsed over this many stations
abbrev pub IsFaultOfRehearsal : (List ℕ → ScriptStep → Type 0) → ℕ → List (List ℕ) → RehearsalFault
    → Type 0
IsFaultOfRehearsal says count lines rehearsal.OutOfMemory = Unit {0}
IsFaultOfRehearsal says count lines (rehearsal.BadScript number) = IsFirstBad says lines number
IsFaultOfRehearsal says count lines (rehearsal.World fault) = IsScript says lines
    × IsFaultOfNew count fault
