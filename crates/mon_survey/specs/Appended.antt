-- What settings mean that have the targets of a further agent at their end.
use Rattle.std.specs.Prelude.{◌≡◌, ◌≢◌, ◌⊎◌, ℕ, ◌+◌, ◌==◌, nat_le, Bool, false, not, List, length}
use Rattle.std.specs.Prelude.{take, drop, Option, option_map, slice_get, Result, Ok, Err}
use Rattle.std.specs.Prelude.{if◌then◌else◌}
use Rattle.std.specs.List.{AllZip, filter, list_any}
use Rattle.std.specs.Option.{option_map_or}
use Rattle.std.specs.Str.{bytes_eq}
use Rattle.mon_alarms.specs.Rule.{Rule}
use Rattle.mon_board.specs.declared.instance.Instance.{Instance}
use Rattle.mon_board.specs.declared.instance.Watched.{Watched}
use Rattle.mon_oid.specs.Oid.{dotted}
use Rattle.mon_poller.specs.declared.target.Object.{Object}
use Rattle.mon_poller.specs.declared.target.Target.{Target}
use Rattle.mon_settings.specs.declared.fault.SettingsFault.TheVariants as settings
use Rattle.mon_settings.specs.Resolving.{resolution}
use Rattle.mon_settings.specs.Station.{station_of}
use Rattle.mon_settings.specs.StationAccepted.{IsStation, Station}
use Rattle.mon_settings.specs.Text.{IsRefusal, Says}
use Rattle.mon_smi.specs.declared.definition.Definition.{Definition}
use Rattle.mon_smi.specs.Labels.{name_text}
use Rattle.mon_survey.specs.declared.answers.Cell.{Cell}
use Rattle.mon_survey.specs.declared.choice.Choice.{Choice}
use Rattle.mon_survey.specs.declared.comparing.Alarm.{Alarm}
use Rattle.mon_survey.specs.declared.counter.Planned.{Planned}
use Rattle.mon_survey.specs.declared.fault.SurveyFault.{SurveyFault}
use Rattle.mon_survey.specs.declared.fault.SurveyFault.TheVariants as fault
use Rattle.mon_survey.specs.declared.longest.LongestRound.{LongestRound}
use Rattle.mon_survey.specs.declared.options.Options.{Options}
use Rattle.mon_survey.specs.declared.size.TargetSize.{TargetSize}
use Rattle.mon_survey.specs.Longest.{longest_of}
use Rattle.mon_survey.specs.Meant.{AreTargets, IsAlarm, alarms_from, few_targets, is_own}
use Rattle.mon_survey.specs.Plan.{planned_of}
use Rattle.mon_survey.specs.Text.{addition_of}

-- how names are shown: by those of modules where the settings list some, else in dotted numbers
abbrev pub shown_by : List Definition → ℕ → List ℕ → List ℕ
shown_by defs modules = if modules == 0 then dotted else name_text defs

-- an object is another one; its number in the watch is another, since that counts the instances
-- before it
pub record IsSameObject (a b : Object) : Type 0 where
  pub name : a.name ≡ b.name
  pub mark : a.discontinuity ≡ b.discontinuity

-- a target is another one, its objects' numbers aside
pub record IsSameTarget (a b : Target) : Type 0 where
  pub address : a.address ≡ b.address
  pub community : a.community ≡ b.community
  pub engine_id : a.engine ≡ b.engine
  pub tries : a.tries ≡ b.tries
  pub objects : AllZip IsSameObject a.objects b.objects

-- the instance of a number
abbrev pub instance_at : List Watched → ℕ → Option Instance
instance_at instances number = option_map (λ w. w.instance) (slice_get instances number)

-- whether a rule is on an instance of the agent
abbrev pub is_on : List ℕ → List Watched → Rule → Bool
is_on engine instances r = option_map_or (is_own engine) (slice_get instances r.instance) false

-- a rule is another one: on the same instance, whatever its number, and with the same thresholds
pub record IsSameRule (old new : List Watched) (a b : Rule) : Type 0 where
  pub instance : instance_at old a.instance ≡ instance_at new b.instance
  pub rising : a.rising ≡ b.rising
  pub falling : a.falling ≡ b.falling

-- the rules are the old ones, those of the agent aside
abbrev pub KeepsRules : List ℕ → List Watched → List Watched → List Rule → List Rule → Type 0
KeepsRules engine was is old new = AllZip (IsSameRule was is) old
    (filter (λ r. not (is_on engine is r)) new)

-- those of the rules that are the agent's are these alarms
abbrev pub HasAlarms : List ℕ → List Watched → List Rule → List Alarm → Type 0
HasAlarms engine instances rules alarms = AllZip IsAlarm (filter (is_on engine instances) rules)
    alarms

-- the station's own number, address, file and wait are the same
pub record KeepsOwn (old new : Station) : Type 0 where
  pub station : old.core.station ≡ new.core.station
  pub listen : old.listen ≡ new.listen
  pub file : old.file ≡ new.file
  pub wait_ms : old.wait_ms ≡ new.wait_ms

-- the modules and the peers with their addresses are the same
pub record KeepsOthers (old new : Station) : Type 0 where
  pub modules : AllZip (λ a b. a ≡ b) old.modules new.modules
  pub peers : old.core.peers ≡ new.core.peers
  pub addresses : AllZip (λ a b. a ≡ b) old.peer_addresses new.peer_addresses

-- what is outside of targets and alarms is the same
pub record KeepsScalars (old new : Station) : Type 0 where
  pub own : KeepsOwn old new
  pub others : KeepsOthers old new

-- What is not the agent's stays: what is outside of targets and alarms, the targets at the front,
-- and what is watched of other agents, with its alarms.
pub record KeepsOld (engine : List ℕ) (old new : Station) : Type 0 where
  pub scalars : KeepsScalars old new
  pub kept : AllZip IsSameTarget old.core.targets (take (length old.core.targets) new.core.targets)
  pub instances : AllZip (λ w was. w ≡ was) (filter (λ w. not (is_own engine w))
      new.core.watch.instances) old.core.watch.instances
  pub rules : KeepsRules engine old.core.watch.instances new.core.watch.instances
      old.core.watch.rules new.core.watch.rules

-- The settings that were meant: the old ones, with targets at their end that poll these counters of
-- the agent, and with the alarms on them. What is watched of other agents stays as it was, with its
-- alarms.
pub record IsAppended (o : Options) (engine : List ℕ) (cells : List Cell) (ps : List Planned)
    (old new : Station) : Type 0 where
  pub stays : KeepsOld engine old new
  pub targets : AreTargets o engine cells ps (drop (length old.core.targets) new.core.targets)
  pub alarms : HasAlarms engine new.core.watch.instances new.core.watch.rules
      (alarms_from engine cells o.percent 0 new.core.watch.instances)

-- whether a target is an agent of this engine id
abbrev pub polls : List ℕ → Target → Bool
polls engine t = bytes_eq t.engine engine

-- at most 256 instances in all, and at most 64 targets
abbrev pub few_instances : TargetSize → Station → List Planned → Result (List Planned) SurveyFault
few_instances size old ps =
    if nat_le (length old.core.watch.instances + length ps) 256
    then few_targets size (length old.core.targets) ps
    else Err (fault.TooMany (length old.core.watch.instances + length ps))

-- the counters, if settings have space for them and poll no agent of this engine id
abbrev pub with_room : TargetSize → Station → List ℕ → List Planned
    → Result (List Planned) SurveyFault
with_room size old engine ps = if list_any (polls engine) old.core.targets then Err fault.SameEngine
    else few_instances size old ps

-- Settings with those of a further agent at their end: the old text octet by octet, then the
-- agent's targets and alarms, which is read as what was meant. A round of the whole takes this long
-- at most, and these are the targets that it has more.
pub record IsAppendedText (defs : List Definition) (choice : Choice) (o : Options) (text : List ℕ)
    (old : Station) (engine : List ℕ) (cells : List Cell) (new : List ℕ) (longest : LongestRound)
    (targets : List Target) : Type 0 where
  pub planned : List Planned
  pub plan : planned_of choice cells ≡ Ok planned
  pub room : with_room o.size old engine planned ≡ Ok planned
  pub drafted : addition_of (shown_by defs (length old.modules)) text o engine cells planned
      ≡ Ok new
  pub station : Station
  pub read : Says (IsStation defs) new station
  pub meant : IsAppended o engine cells planned old station
  pub round : longest ≡ longest_of station
  pub added : targets ≡ drop (length old.core.targets) station.core.targets

-- why a text is not read as what was meant: it is refused for this reason, or it is read as
-- something else
abbrev pub IsMisread : List Definition → Options → List ℕ → List Cell → List Planned → Station
    → List ℕ → SurveyFault → Type 0
IsMisread defs o engine cells ps old text fault.OutOfMemory = Unit {0}
IsMisread defs o engine cells ps old text (fault.Refused e) = IsRefusal
    (station_of (resolution defs)) text e × (e ≢ settings.OutOfMemory)
IsMisread defs o engine cells ps old text fault.Misread = (station : Station)
    × Says (IsStation defs) text station × ¬ (IsAppended o engine cells ps old station)
IsMisread defs o engine cells ps old text _ = ⊥

-- there is no plan, no space or no text, for this reason
abbrev pub IsStopped : List Definition → Choice → Options → List ℕ → Station → List ℕ → List Cell
    → SurveyFault → Type 0
IsStopped defs choice o text old engine cells e =
    (planned_of choice cells ≡ Err e)
    ⊎ ((ps : List Planned) × (planned_of choice cells ≡ Ok ps)
    × ((with_room o.size old engine ps ≡ Err e) ⊎ (addition_of (shown_by defs (length old.modules))
    text o engine cells ps ≡ Err e)))

-- there is a text, which is not read as what was meant, for this reason
abbrev pub IsUnmeant : List Definition → Choice → Options → List ℕ → Station → List ℕ → List Cell
    → SurveyFault → Type 0
IsUnmeant defs choice o text old engine cells e =
    (ps : List Planned) × (new : List ℕ) × (planned_of choice cells ≡ Ok ps)
    × (with_room o.size old engine ps ≡ Ok ps)
    × (addition_of (shown_by defs (length old.modules)) text o engine cells ps ≡ Ok new)
    × IsMisread defs o engine cells ps old new e

-- why there is no such text
abbrev pub IsAppendFault : List Definition → Choice → Options → List ℕ → Station → List ℕ
    → List Cell → SurveyFault → Type 0
IsAppendFault defs choice o text old engine cells e =
    (e ≡ fault.OutOfMemory) ⊎ (IsStopped defs choice o text old engine cells e
    ⊎ IsUnmeant defs choice o text old engine cells e)
