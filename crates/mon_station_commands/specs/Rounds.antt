-- What a station does from its first round to its last one.
use Rattle.std.specs.Prelude.{◌≡◌, ◌⊎◌, ◌↔◌, ◌<◌, ◌≤◌, ◌-◌, ℕ, zero, suc, Bool, IsTrue, false, true}
use Rattle.std.specs.Prelude.{List, [], ◌++◌, Option, None, Result, Ok, Err, option_map}
use Rattle.std.specs.Prelude.{string_bytes}
use Rattle.std.specs.Global.{Vec}
use Rattle.mon_alarms.specs.Announcing.{Announcer}
use Rattle.mon_cli.specs.declared.meaning.StationArgs.{StationArgs}
use Rattle.mon_console.specs.Printing.{IsFitted}
use Rattle.mon_console.specs.declared.failure.Failure.{Failure}
use Rattle.mon_console.specs.declared.printing.Printing.{Printing}
use Rattle.mon_host.specs.AtHost.{AtHost}
use Rattle.mon_host.specs.Then.{Follows, Quietly, Then}
use Rattle.mon_rounds.specs.Totals.{IsDue}
use Rattle.mon_rounds.specs.Order.{RoundEvent}
use Rattle.mon_rounds.specs.declared.totals.Totals.{Totals}
use Rattle.mon_rounds.specs.declared.freshness.Freshness.{Freshness}
use Rattle.mon_station.specs.State.{State}
use Rattle.mon_station.specs.declared.running.Run.{Run}
use Rattle.mon_station_commands.specs.Ending.{IsEnded}
use Rattle.mon_station_commands.specs.Following.{AreDated, IsSettingsLook}
use Rattle.mon_station_commands.specs.Keeping.{IsFileKept}
use Rattle.mon_station_commands.specs.Pace.{IsStopped}
use Rattle.mon_station_commands.specs.Quiet.{AreQuiet}
use Rattle.mon_station_commands.specs.Reporting.{IsOut, IsReportOf, IsReported}
use Rattle.mon_station_commands.specs.Spans.{IsOfRound, IsSpan}
use Rattle.mon_station_commands.specs.Steps.{IsKeptOf}
use Rattle.mon_station_commands.specs.Telling.{announced_notes}
use Rattle.mon_station_commands.specs.declared.live.Kept.{Kept}
use Rattle.mon_station_commands.specs.declared.live.Paths.{Paths}
use Rattle.mon_station_commands.specs.declared.live.Reports.{Reports}
use Rattle.mon_udp.specs.declared.addr.Addr.{Addr}

-- what a station is at a time at which it reports
pub record Moment : Type 0 where
  pub state : State
  pub course : Totals
  pub fresh : Freshness
  pub peers : List ℕ
  pub engines : List (Vec ℕ)
  pub now : ℕ
  pub round_at : Option ℕ
  pub reports : Reports

-- a station at a time, of which this is known
abbrev pub moment_of : State → Totals → Freshness → (peers : List ℕ) (engines : List (Vec ℕ))
    (now : ℕ)
    (round_at : Option ℕ) → Reports → Moment
moment_of state course fresh peers engines now round_at reports = record {
  state = state;
  course = course;
  fresh = fresh;
  peers = peers;
  engines = engines;
  now = now;
  round_at = round_at;
  reports = reports;
}

-- a station at a time, whose reports are printed in this way
abbrev pub printed_by : Printing → Moment → Moment
printed_by printing m = record m { reports = record m.reports { printing = printing } }

-- the report of a station at a time
abbrev pub IsReportAt : Moment → List ℕ → Type 0
IsReportAt m = IsReportOf m.state m.course m.fresh m.peers m.engines m.now m.round_at m.reports

-- what a station keeps before its first round
abbrev pub nothing_kept : Kept
nothing_kept = record {
  round_at = None;
  unsaved = None;
  unprinted = None;
  unwritten = None;
  strayed
      = false;
  settings_at = None;
  ends = false;
}

-- A round, before which it is seen that the station's file is at its path, and at whose end all is
-- saved if `saves` says so. Its lines are said, and its report is written to the file for reports,
-- if there is one. `before` and `after` are what is kept; `seen` is what the windows of alarms were
-- before, and `announcer` what was announced.
pub record IsRound (round : ℕ) (saves : Bool) (printing : Printing) (paths : Paths)
    (before after : Kept) (log : List AtHost) : Type 0 where
  pub targets : List Addr
  pub events : List RoundEvent
  pub run : Run
  pub moment : Moment
  pub format : moment.reports.printing ≡ printing
  pub at : moment.round_at ≡ after.round_at
  pub seen : List (List ℕ)
  pub announcer : Announcer
  pub strayed : Bool
  pub look : List AtHost
  pub looked : IsFileKept round (string_bytes paths.file) before.strayed look strayed
  pub ran : Kept
  pub begin : List AtHost
  pub said : IsSpan (IsOfRound saves targets events run)
      (announced_notes printing round moment.state.board seen announcer) round true
      record before { strayed = strayed } ran begin
  pub rest : List AtHost
  pub written : IsOut round (option_map string_bytes paths.out) (IsReportAt moment) ran.unwritten
      rest after.unwritten
  pub kept : after ≡ record ran { unwritten = after.unwritten }
  pub log_is : log ≡ look ++ (begin ++ rest)

-- A round was run; or a clock failed, which the failure says, and no report was made.
abbrev pub IsRoundRun : (round : ℕ) → (saves : Bool) → Printing → (paths : Paths)
    → (before after : Kept) → List AtHost → Result Unit Failure → Type 0
IsRoundRun round saves printing paths before after log (Ok done) =
    IsRound round saves printing paths before after log
IsRoundRun round saves printing paths before after log (Err failure) = IsStopped log failure

-- a report between two rounds is printed, and a failure of that is kept
pub record IsPrinted (printing : Printing) (before : Kept) (log : List AtHost) (after : Kept)
    : Type 0 where
  pub moment : Moment
  pub format : moment.reports.printing ≡ printing
  pub at : moment.round_at ≡ before.round_at
  pub kept_is : IsKeptOf (IsReported (IsReportAt moment)) before.unprinted log after.unprinted
  pub kept : after ≡ record before { unprinted = after.unprinted }

-- after a round a report is printed if it is due
abbrev pub IsBetween : (round every : ℕ) → Printing → Kept → List AtHost → Kept → Type 0
IsBetween round every printing before log after =
    (IsDue round every × IsPrinted printing before log after)
    ⊎ ((¬ (IsDue round every)) × (log ≡ []) × (after ≡ before))

-- Before a round it is asked whether the settings changed, and what is new is said; `ends` says
-- whether the round is the last one for that.
pub record IsLook (words : StationArgs) (round : ℕ) (before after : Kept) (ends : Bool)
    (log : List AtHost) : Type 0 where
  pub look : IsSettingsLook words round before.settings_at log after.settings_at ends
  pub kept : after ≡ record before { settings_at = after.settings_at; ends = ends }

-- after earlier ones a look at the settings, a round more, the report after it, and the wait for
-- the next one
pub record IsOneMore (Earlier : List AtHost → Kept → Type 0) (round : ℕ) (words : StationArgs)
    (printing : Printing) (paths : Paths) (log : List AtHost) (after : Kept) : Type 0 where
  pub before : Kept
  pub begin : List AtHost
  pub earlier : Earlier begin before
  pub looked : Kept
  pub look : List AtHost
  pub look_is : IsLook words round before looked false look
  pub ran : Kept
  pub run : List AtHost
  pub saves : Bool
  pub due : IsTrue saves ↔ IsDue round words.timing.save_every
  pub round_is : IsRound round saves printing paths looked ran run
  pub told : List AtHost
  pub between : IsBetween round words.timing.report_every printing ran told after
  pub rest : List AtHost
  pub quiet : AreQuiet rest
  pub log_is : log ≡ (((begin ++ look) ++ run) ++ told) ++ rest

-- before the first round it is asked when the settings were changed last, and that is kept
pub record IsBegun (words : StationArgs) (start : Kept) (log : List AtHost) (after : Kept) : Type 0
  where
    pub begin : List AtHost
    pub dated : AreDated words begin after.settings_at
    pub kept : after ≡ record start { settings_at = after.settings_at }
    pub rest : List AtHost
    pub quiet : AreQuiet rest
    pub log_is : log ≡ begin ++ rest

-- This many rounds were run, each with what is between it and the next. `start` and `after` are
-- what is kept before and after them.
abbrev pub AreRounds : StationArgs → Printing → (paths : Paths) → (start : Kept) → ℕ
    → List AtHost → (after : Kept) → Type 0
AreRounds words printing paths start zero log after = IsBegun words start log after
AreRounds words printing paths start (suc n) log after =
    IsOneMore (AreRounds words printing paths start n) (suc n) words printing paths log after

-- the last of these rounds, if there are any, at whose end all is saved
abbrev pub IsLast : (rounds : ℕ) → Printing → (paths : Paths) → (before after : Kept)
    → List AtHost → Type 0
IsLast zero printing paths before after log = (log ≡ []) × (after ≡ before)
IsLast (suc n) printing paths before after log = IsRound (suc n) true printing paths before after
    log

-- the last of this many rounds, in which a clock may fail
abbrev pub IsLastRun : (rounds : ℕ) → Printing → (paths : Paths) → (before after : Kept)
    → List AtHost → Result Unit Failure → Type 0
IsLastRun rounds printing paths before after log (Ok done) = IsLast rounds printing paths before
    after log
IsLastRun rounds printing paths before after log (Err failure) = IsStopped log failure

-- the settings changed, so this round is the last one: the look at them, and the round
pub record IsEndedBy (round : ℕ) (words : StationArgs) (printing : Printing) (paths : Paths)
    (before after : Kept) (log : List AtHost) : Type 0 where
  pub looked : Kept
  pub look : List AtHost
  pub look_is : IsLook words round before looked true look
  pub rest : List AtHost
  pub round_is : IsRound round true printing paths looked after rest
  pub log_is : log ≡ look ++ rest

-- The end of a run after this number of rounds: the last one of all; or one before it, if the
-- settings changed and the station ends for that.
abbrev pub IsEnd : (ran : ℕ) → StationArgs → Printing → (paths : Paths) → (before after : Kept)
    → List AtHost → Type 0
IsEnd ran words printing paths before after log =
    ((ran ≡ words.timing.rounds - 1) × IsLast words.timing.rounds printing paths before after log)
    ⊎ ((suc ran < words.timing.rounds) × IsEndedBy (suc ran) words printing paths before after log)

-- all rounds were run: those with another one after them, and the last
pub record AreAll (words : StationArgs) (printing : Printing) (paths : Paths) (start : Kept)
    (log : List AtHost) (after : Kept) : Type 0 where
  pub ran : ℕ
  pub before : Kept
  pub begin : List AtHost
  pub earlier : AreRounds words printing paths start ran begin before
  pub rest : List AtHost
  pub last : IsEnd ran words printing paths before after rest
  pub log_is : log ≡ begin ++ rest

-- a clock failed, after a look at the settings if there was one before this round
abbrev pub IsCut : (round : ℕ) → StationArgs → (before : Kept) → List AtHost → Failure → Type 0
IsCut round words before log failure = IsStopped log failure
    ⊎ ((looked : Kept) × (ends : Bool) × (look : List AtHost)
    × IsLook words round before looked ends look
    × (rest : List AtHost) × IsStopped rest failure × (log ≡ look ++ rest))

-- A clock failed after some of the rounds, which the failure says.
pub record AreCutShort (words : StationArgs) (printing : Printing) (paths : Paths)
    (start : Kept) (log : List AtHost) (failure : Failure) : Type 0 where
  pub ran : ℕ
  pub within : ran ≤ words.timing.rounds
  pub after : Kept
  pub begin : List AtHost
  pub earlier : AreRounds words printing paths start ran begin after
  pub rest : List AtHost
  pub stopped : IsCut (suc ran) words after rest failure
  pub log_is : log ≡ begin ++ rest

-- all rounds were run, or a clock failed
abbrev pub AreRun : StationArgs → Printing → (paths : Paths) → (start : Kept)
    → List AtHost → (after : Kept) → Result Unit Failure → Type 0
AreRun words printing paths start log after (Ok done) =
    AreAll words printing paths start log after
AreRun words printing paths start log after (Err failure) =
    AreCutShort words printing paths start log failure

-- the last report is printed: as a table, if standard output is a terminal and the arguments name
-- no format
pub record IsLastReport (moment : Moment) (log : List AtHost) (result : Result Unit Failure) : Type
    0 where
  pub last : Printing
  pub look : List AtHost
  pub fitted : IsFitted moment.reports.printing last look
  pub rest : List AtHost
  pub reported : IsReported (IsReportAt (printed_by last moment)) rest result
  pub log_is : log ≡ look ++ rest

-- after the rounds one report is printed, and the run ends as what was kept has it
abbrev pub IsFinish : Moment → Kept → List AtHost → Result Unit Failure → Type 0
IsFinish moment after = Then (IsLastReport moment)
    (λ done. Quietly (IsEnded after.unsaved after.unprinted after.unwritten after.ends))

-- A station's run from its first round on: as many rounds as were asked for, each with its report,
-- and at the end one report more. All is saved at the end of the last round, and of each one that
-- is due. Before each round but the last it is asked whether the settings changed. Nothing but
-- these reports is printed or written, and nothing is read but settings that changed.
pub record IsRun (words : StationArgs) (printing : Printing) (paths : Paths) (start : Kept)
    (log : List AtHost) (result : Result Unit Failure) : Type 0 where
  pub after : Kept
  pub ran : Result Unit Failure
  pub begin : List AtHost
  pub rounds_are : AreRun words printing paths start begin after ran
  pub moment : Moment
  pub format : moment.reports.printing ≡ printing
  pub at : moment.round_at ≡ after.round_at
  pub rest : List AtHost
  pub finish : Follows (λ done. IsFinish moment after) ran rest result
  pub log_is : log ≡ begin ++ rest
