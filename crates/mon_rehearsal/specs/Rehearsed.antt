-- What a rehearsal is: the steps of its script, made one after another in a world, and what that
-- prints.
use Rattle.std.specs.Prelude.{ℕ, ◌≡◌, ◌≢◌, List, [], ◌∷◌, ◌++◌, Result, Err, length, min}
use Rattle.std.specs.Borrow.{Bor}
use Rattle.std.specs.List.{AllByRecursion}
use Rattle.mon_disk.specs.declared.disk.Disk.{Ghosts}
use Rattle.mon_disk.specs.declared.memory.MemoryDisk.{MemoryDisk}
use Rattle.mon_config.specs.StationCore.{Core}
use Rattle.mon_station.specs.declared.station.Station.{Station}
use Rattle.mon_station.specs.State.{State}
use Rattle.mon_station.specs.Verdict.{Setting}
use Rattle.mon_world.specs.declared.fault.WorldFault.{WorldFault}
use Rattle.mon_world.specs.declared.fault.WorldFault.TheVariants.{OutOfMemory}
use Rattle.mon_world.specs.declared.sending.Datagram.{Datagram}
use Rattle.mon_world.specs.declared.sending.Sent.{Sent}
use Rattle.mon_world.specs.declared.step.Step.{Step}
use Rattle.mon_world.specs.declared.step.Step.TheVariants as step
use Rattle.mon_world.specs.Moves.{AreMoves, AreUnforged, Move}
use Rattle.mon_world.specs.Outcome.{IsStepMade, first_lives}
use Rattle.mon_world.specs.Places.{setting_at}
use Rattle.mon_world.specs.Shows.{LeadsTo, StatesOweTruly}
use Rattle.mon_rehearsal.specs.declared.script.ScriptStep.{ScriptStep}
use Rattle.mon_rehearsal.specs.declared.script.ScriptStep.TheVariants.{StartPoll, AgentSays}
use Rattle.mon_rehearsal.specs.declared.script.ScriptStep.TheVariants.{Timeout, Share, Deliver}
use Rattle.mon_rehearsal.specs.declared.script.ScriptStep.TheVariants.{Save, Restart, Forge, Stop}
use Rattle.mon_rehearsal.specs.Printed.{stations_text, step_lines}
use Rattle.mon_rehearsal.specs.Script.{AreSteps, Says}

-- these octets are lent
abbrev pub IsLent : List ℕ → Bor (List ℕ) → Type 0
IsLent octets lent = lent.now ≡ octets

-- The step of a world that a step of a script is. A stop after more than 255 calls is one after
-- 255, which every world refuses too.
abbrev pub IsStepOf : ScriptStep → Step → Type 0
IsStepOf (StartPoll s target) made = made ≡ step.StartPoll s target
IsStepOf (AgentSays s target octets) made = (lent : Bor (List ℕ)) × IsLent octets lent
    × (made ≡ step.AgentSays s target lent)
IsStepOf (Timeout s id) made = made ≡ step.Timeout s id
IsStepOf (Share s peer) made = made ≡ step.Share s peer
IsStepOf (Deliver d) made = made ≡ step.Deliver d
IsStepOf (Save s) made = made ≡ step.Save s
IsStepOf (Restart s) made = made ≡ step.Restart s
IsStepOf (Forge s octets) made = (lent : Bor (List ℕ)) × IsLent octets lent
    × (made ≡ step.Forge s lent)
IsStepOf (Stop s calls keep) made = made ≡ step.Stop s (min calls 255) keep

-- a step of a script forges no claim
abbrev pub IsNoForge : ScriptStep → Type 0
IsNoForge (Forge s octets) = ⊥
IsNoForge said = Unit {0}

-- of this many stations with these settings, a step of a script, with this answer, led from moves
-- to moves; it did not run out of memory
pub record IsMade (settings : ℕ → Setting) (stations : ℕ) (said : ScriptStep)
    (answer : Result Sent WorldFault) (past now : List Move) : Type 0 where
  pub made : Step
  pub is : IsStepOf said made
  pub leads : IsStepMade settings stations made answer past now
  pub ample : answer ≢ Err OutOfMemory

-- the steps of a script, with these answers, the first first
abbrev pub AreMade : (settings : ℕ → Setting) → (stations : ℕ) → List ScriptStep
    → List (Result Sent WorldFault) → List Move → List Move → Type 0
AreMade settings n [] [] past now = now ≡ past
AreMade settings n (s ∷ steps) (a ∷ answers) past now = (middle : List Move)
    × IsMade settings n s a past middle × AreMade settings n steps answers middle now
AreMade settings n steps answers past now = ⊥

-- steps were made one after another, a line was written of each, and this is the world that they
-- led to
pub record HaveBeenMade {G : Ghosts MemoryDisk} (core : Core)
    (stations : List (Station MemoryDisk G)) (sent : List Datagram) (settings : ℕ → Setting)
    (count : ℕ) (steps : List ScriptStep) (past : List Move) (old new : List ℕ) : Type 0 where
  pub answers : List (Result Sent WorldFault)
  pub text : new ≡ old ++ step_lines 1 answers
  pub leads : LeadsTo core stations sent (λ now. AreMade settings count steps answers past now)

-- The text of a rehearsal of these steps over this many stations: in a world whose stations started
-- their first lives on empty disks the steps are made one after another, and a line says the answer
-- of each; then follow the stations as that left them. Where no step forges a claim, none was
-- forged, and then what the stations say of their debts is true.
pub record IsRehearsed (core : Core) (count : ℕ) (steps : List ScriptStep) (text : List ℕ) : Type 0
  where
    pub first : List State
    pub opened : length first ≡ count
    pub answers : List (Result Sent WorldFault)
    pub moves : List Move
    pub are : AreMoves (setting_at core count) moves
    pub made : AreMade (setting_at core count) count steps answers
        (first_lives (setting_at core count) 1 first) moves
    pub unforged : AllByRecursion IsNoForge steps → AreUnforged moves
    pub square : AreUnforged moves → StatesOweTruly moves
    pub is : text ≡ step_lines 1 answers ++ stations_text count moves count

-- the text of a rehearsal of what these lines say
abbrev pub IsRehearsal : Core → ℕ → List (List ℕ) → List ℕ → Type 0
IsRehearsal core count lines text = (steps : List ScriptStep) × AreSteps Says lines steps
    × IsRehearsed core count steps text
