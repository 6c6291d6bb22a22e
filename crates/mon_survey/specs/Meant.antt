-- What the settings of a station that polls an agent's interfaces mean.
use Rattle.std.specs.Prelude.{◌≡◌, ◌≢◌, ◌⊎◌, ◌≤◌, ℕ, ◌+◌, ◌*◌, Bool, ◌==◌, ◌||◌, nat_le, pos, List}
use Rattle.std.specs.Prelude.{[], ◌∷◌, ◌++◌, length, All, Option, Some, None, Result, Ok, Err}
use Rattle.std.specs.Prelude.{string_bytes, if◌then◌else◌}
use Rattle.std.specs.List.{AllZip, flat_map}
use Rattle.std.specs.Str.{bytes_eq}
use Rattle.std.specs.Option.{option_to_list}
use Rattle.mon_alarms.specs.Rule.{Rule}
use Rattle.mon_board.specs.declared.instance.Watched.{Watched}
use Rattle.mon_poller.specs.declared.target.Object.{Object}
use Rattle.mon_poller.specs.declared.target.Target.{Target}
use Rattle.mon_settings.specs.declared.fault.SettingsFault.TheVariants as settings
use Rattle.mon_settings.specs.Resolving.{resolution}
use Rattle.mon_settings.specs.Station.{station_of}
use Rattle.mon_settings.specs.StationAccepted.{IsStation, Station}
use Rattle.mon_settings.specs.Text.{IsRefusal, Says}
use Rattle.mon_smi.specs.declared.definition.Definition.{Definition}
use Rattle.mon_udp.specs.Addr.{addr_of}
use Rattle.mon_udp.specs.declared.addr.Addr.{Addr}
use Rattle.mon_survey.specs.declared.answers.Cell.{Cell}
use Rattle.mon_survey.specs.declared.choice.Choice.{Choice}
use Rattle.mon_survey.specs.declared.column.Column.{Column}
use Rattle.mon_survey.specs.declared.column.Column.TheVariants.{If, IfX}
use Rattle.mon_survey.specs.declared.column.Spot.{Spot}
use Rattle.mon_survey.specs.declared.column.Spot.TheVariants as spot
use Rattle.mon_survey.specs.declared.comparing.Alarm.{Alarm}
use Rattle.mon_survey.specs.declared.counter.Planned.{Planned}
use Rattle.mon_survey.specs.declared.fault.SurveyFault.{SurveyFault}
use Rattle.mon_survey.specs.declared.fault.SurveyFault.TheVariants as fault
use Rattle.mon_survey.specs.declared.longest.LongestRound.{LongestRound}
use Rattle.mon_survey.specs.declared.options.Options.{Options}
use Rattle.mon_survey.specs.declared.options.Peer.{Peer}
use Rattle.mon_survey.specs.declared.planning.Thresholds.{Thresholds}
use Rattle.mon_survey.specs.Answers.{is_marked, speed_in}
use Rattle.mon_survey.specs.Column.{cell_name, spot_of}
use Rattle.mon_survey.specs.Counter.{column_of}
use Rattle.mon_survey.specs.Longest.{longest_of}
use Rattle.mon_survey.specs.Plan.{planned_of, thresholds_at}
use Rattle.mon_survey.specs.Size.{objects_in, targets_for}
use Rattle.mon_survey.specs.declared.size.TargetSize.{TargetSize}
use Rattle.mon_survey.specs.Text.{draft_of}

-- the name of an interface's mark, where it has one
abbrev pub mark_of : List Cell → ℕ → Option (List ℕ)
mark_of cells index = if is_marked cells index then Some (cell_name (IfX 19) index) else None

-- an object is this counter: it has the name of its cell, and its interface's mark where there is
-- one
pub record IsCounter (cells : List Cell) (o : Object) (p : Planned) : Type 0 where
  pub name : o.name ≡ cell_name (column_of p.counter p.wide) p.index
  pub mark : o.discontinuity ≡ mark_of cells p.index

-- a target is the agent
pub record IsAgent (o : Options) (engine : List ℕ) (t : Target) : Type 0 where
  pub address : addr_of o.address.now ≡ Some t.address
  pub community : t.community ≡ o.community.now
  pub engine_id : t.engine ≡ engine
  pub tries : t.tries ≡ o.tries

-- whether a column counts octets
abbrev pub is_octets : Column → Bool
is_octets (If c) = c == 10 || c == 16
is_octets (IfX c) = c == 6 || c == 10

-- whether an instance is the agent's
abbrev pub is_own : List ℕ → Watched → Bool
is_own engine w = bytes_eq w.instance.engine engine

-- the thresholds of a cell
abbrev pub at_cell : List Cell → ℕ → Spot → Option Thresholds
at_cell cells percent (spot.Cell column index) = if is_octets column
    then thresholds_at (speed_in cells index * percent) else None
at_cell cells percent spot.Ragged = None
at_cell cells percent spot.Elsewhere = None

-- the alarm on the instance of this number, where there are thresholds
abbrev pub alarm_on : ℕ → Option Thresholds → Option Alarm
alarm_on number None = None
alarm_on number (Some at) = Some (record {
  instance = number;
  rising = at.rising;
  falling =
      at.falling;
})

-- the thresholds of an instance, where it is the agent's
abbrev pub at_watched : List ℕ → List Cell → ℕ → Watched → Option Thresholds
at_watched engine cells percent w = if is_own engine w then at_cell cells percent
    (spot_of w.instance.name) else None

-- the alarms on instances, of which the first has this number: one on each counter of octets of the
-- agent whose interface has a speed
abbrev pub alarms_from : List ℕ → List Cell → ℕ → ℕ → List Watched → List Alarm
alarms_from engine cells percent number [] = []
alarms_from engine cells percent number (w ∷ ws) =
    option_to_list (alarm_on number (at_watched engine cells percent w))
    ++ alarms_from engine cells percent (number + 1) ws

-- a rule is this alarm
pub record IsAlarm (r : Rule) (a : Alarm) : Type 0 where
  pub instance : r.instance ≡ a.instance
  pub rising : r.rising ≡ pos a.rising
  pub falling : r.falling ≡ pos a.falling

-- what is outside of the lists
pub record AreScalars (o : Options) (s : Station) : Type 0 where
  pub station : s.core.station ≡ o.station
  pub listen : addr_of o.listen.now ≡ Some s.listen
  pub file : s.file ≡ o.file.now
  pub wait_ms : s.wait_ms ≡ o.wait_ms
  pub modules : AllZip (λ text m. text ≡ m.now) s.modules o.modules.now

-- at most 64 targets with those of some counters, before which there are this many
abbrev pub few_targets : TargetSize → ℕ → List Planned → Result (List Planned) SurveyFault
few_targets size before ps =
    if nat_le (before + targets_for size ps) 64 then Ok ps else Err
    (fault.TooManyTargets (before + targets_for size ps))

-- a target has no more objects than the size allows
abbrev pub IsSmall : TargetSize → Target → Type 0
IsSmall size t = length t.objects ≤ objects_in size

-- the targets: they are the agent, they poll the counters in their order, each has at most as many
-- objects as the size allows, and there are as few of them as it allows
pub record AreTargets (o : Options) (engine : List ℕ) (cells : List Cell) (ps : List Planned)
    (targets : List Target) : Type 0 where
  pub agent : All (IsAgent o engine) targets
  pub counters : AllZip (IsCounter cells) (flat_map (λ t. t.objects) targets) ps
  pub small : All (IsSmall o.size) targets
  pub full : length targets ≡ targets_for o.size ps

-- every window and its part of one snmpEngineBoots have the size that the options say
pub record IsSized (o : Options) (w : Watched) : Type 0 where
  pub window : w.window ≡ o.window
  pub epoch : w.epoch ≡ o.window

-- the peers are those of the options
pub record ArePeers (peers : List Peer) (numbers : List ℕ) (addresses : List Addr) : Type 0 where
  pub numbered : AllZip (λ n p. n ≡ p.station) numbers peers
  pub placed : AllZip (λ a p. addr_of (string_bytes p.address) ≡ Some a) addresses peers

-- The settings that were meant: of the station of the options, which polls these counters of the
-- agent.
pub record IsMeant (o : Options) (engine : List ℕ) (cells : List Cell) (ps : List Planned)
    (s : Station) : Type 0 where
  pub scalars : AreScalars o s
  pub targets : AreTargets o engine cells ps s.core.targets
  pub windows : All (IsSized o) s.core.watch.instances
  pub rules : AllZip IsAlarm s.core.watch.rules (alarms_from engine cells o.percent 0
      s.core.watch.instances)
  pub peers : ArePeers o.peers.now s.core.peers s.peer_addresses

-- why what is read is not found to be what was meant: out of memory, or it is something else
abbrev pub IsUnlike : Type 0 → SurveyFault → Type 0
IsUnlike Meant e = (e ≡ fault.OutOfMemory) ⊎ ((e ≡ fault.Misread) × ¬ Meant)

-- under these definitions a text is read as what was meant; this is how long its rounds take at
-- most, and these are its targets
abbrev pub IsReadBack : List Definition → Options → List ℕ → List Cell → List Planned → List ℕ
    → LongestRound → List Target → Type 0
IsReadBack defs o engine cells ps text longest targets =
    (station : Station) × Says (IsStation defs) text station × IsMeant o engine cells ps station
    × (longest ≡ longest_of station)
    × (targets ≡ station.core.targets)

-- The text of the settings: that of the counters that are planned, with names as they are shown,
-- and under these definitions it is read as what was meant. Its rounds take this long at most, and
-- it is read as these targets.
pub record IsSettingsText (defs : List Definition) (shown : List ℕ → List ℕ) (choice : Choice)
    (o : Options) (engine : List ℕ) (cells : List Cell) (text : List ℕ) (longest : LongestRound)
    (targets : List Target) : Type 0 where
  pub planned : List Planned
  pub plan : planned_of choice cells ≡ Ok planned
  pub room : few_targets o.size 0 planned ≡ Ok planned
  pub drafted : draft_of shown o engine cells planned ≡ Ok text
  pub read_back : IsReadBack defs o engine cells planned text longest targets

-- why a text is not read as what was meant: it is refused for this reason, or it is read as
-- something else
abbrev pub IsNotReadBack : List Definition → Options → List ℕ → List Cell → List Planned → List ℕ
    → SurveyFault → Type 0
IsNotReadBack defs o engine cells ps text fault.OutOfMemory = Unit {0}
IsNotReadBack defs o engine cells ps text (fault.Refused e) = IsRefusal
    (station_of (resolution defs)) text e × (e ≢ settings.OutOfMemory)
IsNotReadBack defs o engine cells ps text fault.Misread = (station : Station)
    × Says (IsStation defs) text station × ¬ (IsMeant o engine cells ps station)
IsNotReadBack defs o engine cells ps text _ = ⊥

-- there is no plan, too many targets or no text, for this reason
abbrev pub HasNone : (List ℕ → List ℕ) → Choice → Options → List ℕ → List Cell → SurveyFault
    → Type 0
HasNone shown choice o engine cells e =
    (planned_of choice cells ≡ Err e)
    ⊎ ((ps : List Planned) × (planned_of choice cells ≡ Ok ps)
    × ((few_targets o.size 0 ps ≡ Err e) ⊎ (draft_of shown o engine cells ps ≡ Err e)))

-- there is a text, which is not read as what was meant, for this reason
abbrev pub HasText : List Definition → (List ℕ → List ℕ) → Choice → Options → List ℕ → List Cell
    → SurveyFault → Type 0
HasText defs shown choice o engine cells e =
    (ps : List Planned) × (text : List ℕ) × (planned_of choice cells ≡ Ok ps)
    × (few_targets o.size 0 ps ≡ Ok ps)
    × (draft_of shown o engine cells ps ≡ Ok text)
    × IsNotReadBack defs o engine cells ps text e

-- why there are no settings
abbrev pub IsFault : List Definition → (List ℕ → List ℕ) → Choice → Options → List ℕ → List Cell
    → SurveyFault → Type 0
IsFault defs shown choice o engine cells e = (e ≡ fault.OutOfMemory)
    ⊎ (HasNone shown choice o engine cells e ⊎ HasText defs shown choice o engine cells e)
