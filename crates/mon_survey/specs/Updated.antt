-- What settings mean that are others with an agent's interfaces as they are now.
use Rattle.std.specs.Prelude.{◌≡◌, ◌≢◌, ◌⊎◌, ℕ, ◌+◌, nat_eq, nat_le, List, [], ◌∷◌, ◌++◌, length}
use Rattle.std.specs.Prelude.{take, drop, Some, Result, Ok, Err, if◌then◌else◌}
use Rattle.std.specs.List.{AllZip, Any, flat_map, list_any}
use Rattle.std.specs.Option.{option_to_list}
use Rattle.std.specs.Str.{IsUtf8}
use Rattle.hex.specs.Hex.{encode_lower}
use Rattle.mon_alarms.specs.Rule.{Rule}
use Rattle.mon_board.specs.declared.instance.Watched.{Watched}
use Rattle.mon_poller.specs.declared.target.Target.{Target}
use Rattle.mon_settings.specs.declared.fault.SettingsFault.TheVariants as settings
use Rattle.mon_settings.specs.Resolving.{resolution}
use Rattle.mon_settings.specs.Station.{station_of}
use Rattle.mon_settings.specs.StationAccepted.{IsStation, Station}
use Rattle.mon_settings.specs.Text.{IsRefusal, Says}
use Rattle.mon_smi.specs.declared.definition.Definition.{Definition}
use Rattle.mon_survey.specs.declared.choice.Choice.{Choice}
use Rattle.mon_survey.specs.declared.column.Spot.{Spot}
use Rattle.mon_survey.specs.declared.column.Spot.TheVariants as spot
use Rattle.mon_survey.specs.declared.counter.Planned.{Planned}
use Rattle.mon_survey.specs.declared.fault.SurveyFault.{SurveyFault}
use Rattle.mon_survey.specs.declared.fault.SurveyFault.TheVariants as fault
use Rattle.mon_survey.specs.declared.longest.LongestRound.{LongestRound}
use Rattle.mon_survey.specs.declared.options.Options.{Options}
use Rattle.mon_survey.specs.declared.ruling.Ruling.{Ruling}
use Rattle.mon_survey.specs.declared.size.TargetSize.{TargetSize}
use Rattle.mon_survey.specs.Appended.{IsSameTarget, KeepsScalars, instance_at, polls, shown_by}
use Rattle.mon_survey.specs.Column.{spot_of}
use Rattle.mon_survey.specs.Edited.{edited_text, quoted, spellings}
use Rattle.mon_survey.specs.Longest.{longest_of}
use Rattle.mon_survey.specs.Meant.{AreTargets, few_targets, is_own}
use Rattle.mon_survey.specs.Moved.{At, index_now, rulings, targets_now, watch_now}
use Rattle.mon_survey.specs.Plan.{counters_of}
use Rattle.mon_survey.specs.Text.{addition_of}

-- ---- which counters are new

-- a number after others, unless it is one of them
abbrev pub with_index : List ℕ → Spot → List ℕ
with_index indexes (spot.Cell column index) = if list_any (nat_eq index) indexes then indexes
    else indexes ++ index ∷ []
with_index indexes spot.Ragged = indexes
with_index indexes spot.Elsewhere = indexes

-- the index of an interface of the agent that is watched, after others
abbrev pub with_watched : List ℕ → List ℕ → Watched → List ℕ
with_watched engine indexes w = if is_own engine w then with_index indexes (spot_of w.instance.name)
    else indexes

-- the indexes of all of them, each once, after others
abbrev pub polled_after : List ℕ → List ℕ → List Watched → List ℕ
polled_after engine indexes [] = indexes
polled_after engine indexes (w ∷ ws) = polled_after engine (with_watched engine indexes w) ws

-- the indexes of the agent's interfaces that settings poll, each once
abbrev pub polled : List ℕ → List Watched → List ℕ
polled engine ws = polled_after engine [] ws

-- the indexes that these interfaces have now
abbrev pub indexes_left : At → List Watched → List ℕ
indexes_left a ws = flat_map (λ i. option_to_list (index_now a i)) (polled a.engine ws)

-- a counter, unless its interface is one of these
abbrev pub unless_there : List ℕ → Planned → List Planned
unless_there indexes p = if list_any (nat_eq p.index) indexes then [] else p ∷ []

-- the counters of interfaces that are chosen and that settings do not poll
abbrev pub new_counters : Choice → At → List Watched → List Planned
new_counters choice a ws = flat_map (unless_there (indexes_left a ws)) (counters_of choice a.cells)

-- at most 256 instances with those that are left, and at most 64 targets
abbrev pub few_left : TargetSize → At → Station → List Planned → Result (List Planned) SurveyFault
few_left size a old ps =
    if nat_le (length (watch_now a old.core.watch.instances) + length ps) 256
    then few_targets size (length (targets_now a old.core.targets)) ps
    else Err (fault.TooMany (length (watch_now a old.core.watch.instances) + length ps))

-- the counters, if settings poll the agent and have space for these
abbrev pub with_space : TargetSize → At → Station → List Planned → Result (List Planned) SurveyFault
with_space size a old ps = if list_any (polls a.engine) old.core.targets then few_left size a old ps
    else Err fault.OtherEngine

-- ---- what was meant

-- a rule is on this instance, with these thresholds
pub record IsRuling (instances : List Watched) (g : Ruling) (r : Rule) : Type 0 where
  pub instance : instance_at instances r.instance ≡ Some g.instance
  pub rising : r.rising ≡ g.rising
  pub falling : r.falling ≡ g.falling

-- one of the rules is this alarm
pub record HasRuling (instances : List Watched) (rules : List Rule) (g : Ruling) : Type 0 where
  pub found : Any (IsRuling instances g) rules

-- each of the alarms is one of the rules
abbrev pub HasRulings : List Watched → List Rule → List Ruling → Type 0
HasRulings instances rules [] = Unit {0}
HasRulings instances rules (g ∷ gs) = HasRuling instances rules g × HasRulings instances rules gs

-- each of these alarms is one of the rules, and there are as many rules as alarms
pub record AreRulings (instances : List Watched) (gs : List Ruling) (rules : List Rule) : Type 0
  where
    pub each : HasRulings instances rules gs
    pub count : length rules ≡ length gs

-- this is watched, by a window of this size
pub record IsWatched (instances : List Watched) (w : Watched) : Type 0 where
  pub found : Any (λ x. x ≡ w) instances

-- all this is watched
abbrev pub AreWatched : List Watched → List Watched → Type 0
AreWatched instances [] = Unit {0}
AreWatched instances (w ∷ ws) = IsWatched instances w × AreWatched instances ws

-- all this is watched, and these are the alarms
pub record KeepsWatch (instances : List Watched) (rules : List Rule) (ws : List Watched)
    (gs : List Ruling) : Type 0 where
  pub windows : AreWatched instances ws
  pub alarms : AreRulings instances gs rules

-- what is outside of targets and alarms is the same, and these targets are at the front
pub record KeepsFront (targets : List Target) (old new : Station) : Type 0 where
  pub scalars : KeepsScalars old new
  pub kept : AllZip IsSameTarget targets (take (length targets) new.core.targets)

-- settings with these targets of others, then targets that poll these counters of the agent, and
-- with this watched and these alarms
pub record IsMadeOf (o : Options) (a : At) (ps : List Planned) (targets : List Target)
    (ws : List Watched) (gs : List Ruling) (old new : Station) : Type 0 where
  pub front : KeepsFront targets old new
  pub added : AreTargets o a.engine a.cells ps (drop (length targets) new.core.targets)
  pub watch : KeepsWatch new.core.watch.instances new.core.watch.rules ws gs

-- The settings that were meant: the old ones with what is left of their targets, each at the index
-- that its interface has now, with windows of the same size and with its alarms; and with targets
-- at their end that poll these counters, and the alarms on them.
abbrev pub IsUpdated : Options → At → List Planned → Station → Station → Type 0
IsUpdated o a ps old new =
    IsMadeOf o a ps (targets_now a old.core.targets) (watch_now a old.core.watch.instances)
    (rulings a o.percent ps old.core.watch.instances old.core.watch.rules) old new

-- ---- the text

-- the old text with the agent's blocks as they are now
abbrev pub kept_text : (List ℕ → List ℕ) → At → List Watched → List ℕ → List ℕ
kept_text shown a ws text = edited_text (spellings shown a ws) (quoted (encode_lower a.engine)) text

-- that text with the targets of new interfaces at its end
abbrev pub update_of : (List ℕ → List ℕ) → At → List Watched → List ℕ → Options → List Planned
    → Result (List ℕ) SurveyFault
update_of shown a ws text o ps = addition_of shown (kept_text shown a ws text) o a.engine a.cells ps

-- Settings with an agent's interfaces as they are now: the old text, of which only the agent's
-- blocks change, and then the targets of new interfaces, which is read as what was meant. A round
-- takes this long at most, and these are the targets that were added.
pub record IsUpdatedText (defs : List Definition) (o : Options) (a : At) (ps : List Planned)
    (text : List ℕ) (old : Station) (new : List ℕ) (longest : LongestRound) (targets : List Target)
    : Type 0 where
  pub room : with_space o.size a old ps ≡ Ok ps
  pub drafted : update_of (shown_by defs (length old.modules)) a old.core.watch.instances text o ps
      ≡ Ok new
  pub station : Station
  pub read : Says (IsStation defs) new station
  pub meant : IsUpdated o a ps old station
  pub round : longest ≡ longest_of station
  pub added : targets ≡ drop (length (targets_now a old.core.targets)) station.core.targets

-- ---- why there is none

-- why a text is not read as what was meant: it is refused for this reason, or it is read as
-- something else
abbrev pub IsUnread : List Definition → Options → At → List Planned → Station → List ℕ → SurveyFault
    → Type 0
IsUnread defs o a ps old text fault.OutOfMemory = Unit {0}
IsUnread defs o a ps old text (fault.Refused e) = IsRefusal (station_of (resolution defs)) text e
    × (e ≢ settings.OutOfMemory)
IsUnread defs o a ps old text fault.Misread = (station : Station)
    × Says (IsStation defs) text station × ¬ (IsUpdated o a ps old station)
IsUnread defs o a ps old text _ = ⊥

-- why there is no text: memory, what is left of the old one is no text, or the options may not be
-- put in quotes
abbrev pub IsUndrafted : (List ℕ → List ℕ) → At → List Watched → List ℕ → Options → List Planned
    → SurveyFault → Type 0
IsUndrafted shown a ws text o ps e =
    (e ≡ fault.OutOfMemory) ⊎ (((e ≡ fault.Misread) × ¬ (IsUtf8 (kept_text shown a ws text)))
    ⊎ (update_of shown a ws text o ps ≡ Err e))

-- there is a text, which is not read as what was meant, for this reason
abbrev pub IsUnmeant : List Definition → Options → At → List Planned → List ℕ → Station
    → SurveyFault → Type 0
IsUnmeant defs o a ps text old e = (new : List ℕ)
    × (update_of (shown_by defs (length old.modules)) a old.core.watch.instances text o ps ≡ Ok new)
    × IsUnread defs o a ps old new e

-- why there are no such settings
abbrev pub IsUpdateFault : List Definition → Options → At → List Planned → List ℕ → Station
    → SurveyFault → Type 0
IsUpdateFault defs o a ps text old e =
    (e ≡ fault.OutOfMemory) ⊎ ((with_space o.size a old ps ≡ Err e)
    ⊎ (IsUndrafted (shown_by defs (length old.modules)) a old.core.watch.instances text o ps e
    ⊎ IsUnmeant defs o a ps text old e))
