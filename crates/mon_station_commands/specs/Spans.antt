-- What is said of a round, or of the time after it.
use Rattle.std.specs.Prelude.{◌≡◌, ◌⊎◌, ◌≤◌, ◌-◌, ◌/◌, ℕ, Bool, true, false, IsErrAnd, List, []}
use Rattle.std.specs.Prelude.{◌∷◌, ◌++◌, Option, Some, None, Result, Ok, Err, length, map, take}
use Rattle.std.specs.List.{flat_map}
use Rattle.std.specs.Time.{instant_nanos, system_time_nanos}
use Rattle.std.specs.declared.time.Instant.{Instant}
use Rattle.std.specs.declared.time.SystemTime.{SystemTime}
use Rattle.mon_console.specs.Failure.{IsMemory, IsPlain}
use Rattle.mon_console.specs.declared.failure.Failure.{Failure}
use Rattle.mon_disk.specs.Fault.{number_of}
use Rattle.mon_disk.specs.declared.fault.KeeperFault.{KeeperFault}
use Rattle.mon_faults.specs.Fault.{station_fault}
use Rattle.mon_host.specs.AtHost.{AtHost, Dated, Timed}
use Rattle.mon_host.specs.Then.{Then}
use Rattle.mon_host.specs.declared.level.Level.{Level}
use Rattle.mon_rounds.specs.Grid.{milliseconds_of}
use Rattle.mon_rounds.specs.Noted.{notices_of}
use Rattle.mon_rounds.specs.Order.{IsRound, RoundEvent}
use Rattle.mon_rounds.specs.declared.changes.Change.{Change}
use Rattle.mon_rounds.specs.declared.freshness.Freshness.{Freshness}
use Rattle.mon_rounds.specs.declared.freshness.Spell.{Spell}
use Rattle.mon_rounds.specs.declared.freshness.TargetAge.{TargetAge}
use Rattle.mon_rounds.specs.declared.reporting.RoundReport.{RoundReport}
use Rattle.mon_rounds.specs.declared.round.Span.{Span}
use Rattle.mon_rounds.specs.declared.round.Span.TheVariants.{Between, Round}
use Rattle.mon_station.specs.declared.fault.StationFault.{StationFault}
use Rattle.mon_station.specs.declared.fault.StationFault.TheVariants.{OutOfMemory}
use Rattle.mon_station.specs.declared.running.Run.{Run}
use Rattle.mon_file_commands.specs.Line.{AreNoted, noted}
use Rattle.mon_station_commands.specs.Opening.{last_of, unsaved_in}
use Rattle.mon_station_commands.specs.Pace.{IsStopped}
use Rattle.mon_station_commands.specs.Steps.{IsTried}
use Rattle.mon_station_commands.specs.Telling.{restart_lines, round_lines}
use Rattle.mon_station_commands.specs.Troubles.{AreAllSaid, AreSomeSaid}
use Rattle.mon_station_commands.specs.declared.troubles.Facts.{Facts}
use Rattle.mon_station_commands.specs.declared.live.Kept.{Kept}
use Rattle.mon_udp.specs.declared.addr.Addr.{Addr}

-- whether a span is a round, and not the time between two
abbrev pub is_round : Span → Bool
is_round Round = true
is_round (Between milliseconds) = false

-- The report of a run with these targets and events, as far as lines depend on it.
pub record IsOfRun (targets : List Addr) (events : List RoundEvent) (run : Run)
    (report : RoundReport)
    : Type 0 where
  pub noticed : report.notices.items ≡ notices_of targets events run.answers.items
  pub sources : report.source_faults ≡ run.source_faults
  pub sends : report.send_faults ≡ run.send_faults

-- The report of a whole round with these targets and events, which saves or does not.
pub record IsOfRound (saves : Bool) (targets : List Addr) (events : List RoundEvent) (run : Run)
    (report : RoundReport) : Type 0 where
  pub is_of : IsOfRun targets events run report
  pub most : ℕ
  pub peers : List ℕ
  pub order : IsRound (length targets) most peers saves events

-- the report of a round, or of the time between two
abbrev pub IsOfSpan : Span → (saves : Bool) → List Addr → List RoundEvent → Run → RoundReport
    → Type 0
IsOfSpan Round saves = IsOfRound saves
IsOfSpan (Between milliseconds) saves = IsOfRun

-- the fault of a save, by its number in a notice, if there is one
abbrev pub IsUnsavedBy : Option ℕ → Option KeeperFault → Type 0
IsUnsavedBy None unsaved = unsaved ≡ None
IsUnsavedBy (Some number) None = ⊥
IsUnsavedBy (Some number) (Some fault) = 1 ≤ number → number ≤ 6 → number_of fault ≡ number

-- What is kept of the last round's save: after a round what its last notice says, else what it was.
abbrev pub IsSavedAfter : (whole : Bool) → RoundReport → (before after : Option KeeperFault)
    → Type 0
IsSavedAfter true report before after = IsUnsavedBy (unsaved_in (last_of report.notices.items))
    after
IsSavedAfter false report before after = after ≡ before

-- these troubles are said as they are known by this freshness; some lines are, if memory runs out
abbrev pub AreTroublesOf : Freshness → (round : ℕ) → List Change → List AtHost → Result Unit Failure
    → Type 0
AreTroublesOf fresh round changes log (Ok done) =
    (facts : Facts) × (facts.freshness.now ≡ fresh) × AreAllSaid facts round changes log
AreTroublesOf fresh round changes log (Err failure) = IsMemory failure × AreSomeSaid log

-- after a round troubles that begin or end are said; memory may run out
abbrev pub AreTroubles : (whole : Bool) → (round : ℕ) → List AtHost → Result Unit Failure → Type 0
AreTroubles true round log result =
    (fresh : Freshness) × (changes : List Change) × AreTroublesOf fresh round changes log result
AreTroubles false round log result = (log ≡ []) × (result ≡ Ok tt)

-- The lines of alarms that changed are said, some of them if memory runs out.
abbrev pub AreAlarms : (lines : List (Level × List ℕ)) → List AtHost → Result Unit Failure → Type 0
AreAlarms lines log (Ok done) = log ≡ map noted lines
AreAlarms lines log (Err failure) =
    IsMemory failure × ((many : ℕ) × (log ≡ map noted (take many lines)))

-- What is said after the lines of a round: troubles, and the lines of alarms, which differ by
-- whether it is a whole round.
abbrev pub AreChanges : (alarms : Bool → List (Level × List ℕ)) → (round : ℕ) → (whole : Bool)
    → List AtHost
    → Result Unit Failure → Type 0
AreChanges alarms round whole =
    Then (AreTroubles whole round) (λ (said : Unit {0}). AreAlarms (alarms whole))

-- A report was made. Its lines are said, then which agents restarted, and what changed: `alarms`
-- are the lines of alarms. `before` and `after` are what is kept of the last save.
pub record IsReportSaid (IsReport : RoundReport → Type 0) (alarms : Bool → List (Level × List ℕ))
    (round : ℕ)
    (whole : Bool) (before after : Option KeeperFault) (log : List AtHost)
    (result : Result Unit Failure) : Type 0 where
  pub report : RoundReport
  pub report_is : IsReport report
  pub targets : List TargetAge
  pub begin : List AtHost
  pub noted : AreNoted (round_lines round report ++ flat_map (restart_lines round) targets) begin
  pub saved : IsSavedAfter whole report before after
  pub rest : List AtHost
  pub changed : AreChanges alarms round whole rest result
  pub log_is : log ≡ begin ++ rest

-- memory ran out before anything was said, and the failure is one of these
abbrev pub IsNoReport : (Failure → Type 0) → List AtHost → Result Unit Failure → Type 0
IsNoReport IsWhy log result = (log ≡ []) × IsErrAnd result IsWhy

-- The account of what was run: its report is said, unless there was no memory for that.
abbrev pub IsReportOr : (IsReport : RoundReport → Type 0) → (alarms : Bool → List (Level × List ℕ))
    → (round : ℕ)
    → (whole : Bool) → (before after : Option KeeperFault) → List AtHost → Result Unit Failure
    → Type 0
IsReportOr IsReport alarms round whole before after log result =
    (IsNoReport IsMemory log result × (after ≡ before))
    ⊎ IsReportSaid IsReport alarms round whole before after log result

-- The account of a spell; or there was no memory to run it.
abbrev pub IsAccountOf : Result Spell StationFault → (IsReport : RoundReport → Type 0)
    → (alarms : Bool → List (Level × List ℕ)) → (round : ℕ) → (before after : Option KeeperFault)
    → List AtHost
    → Result Unit Failure → Type 0
IsAccountOf (Ok spell) IsReport alarms round before after log result =
    IsReportOr IsReport alarms round (is_round spell.span) before after log result
IsAccountOf (Err fault) IsReport alarms round before after log result =
    IsNoReport (IsPlain (station_fault fault)) log result × (after ≡ before)

-- the account of a span; or there was no memory to run it
abbrev pub IsAccount : (IsReport : RoundReport → Type 0) → (alarms : Bool → List (Level × List ℕ))
    → (round : ℕ)
    → (whole : Bool) → (before after : Option KeeperFault) → List AtHost → Result Unit Failure
    → Type 0
IsAccount IsReport alarms round whole before after log result =
    IsReportOr IsReport alarms round whole before after log result
    ⊎ (IsNoReport (IsPlain (station_fault OutOfMemory)) log result × (after ≡ before))

-- when the last round ended, in seconds since 1970: after a round by this date, else as it was
abbrev pub round_after : (whole : Bool) → SystemTime → Option ℕ → Option ℕ
round_after true date before = Some (milliseconds_of (system_time_nanos date) / 1000)
round_after false date before = before

-- A span was run between two looks at the clock. Then its account is given, and a failure of that
-- is said. `before` and `after` are what is kept.
pub record IsSpan (IsReport : RoundReport → Type 0) (alarms : Bool → List (Level × List ℕ))
    (round : ℕ)
    (whole : Bool) (before after : Kept) (log : List AtHost) : Type 0 where
  pub began : Instant
  pub ended : Instant
  pub date : SystemTime
  pub at : after.round_at ≡ round_after whole date before.round_at
  pub kept : after ≡ record before { round_at = after.round_at; unsaved = after.unsaved }
  pub rest : List AtHost
  pub failure : Option Failure
  pub account : IsTried (IsAccount IsReport alarms round whole before.unsaved after.unsaved) rest
      failure
  pub log_is : log ≡ Timed began ∷ Timed ended ∷ Dated date ∷ rest

-- a span was run; or a clock failed, and no account was given
abbrev pub IsSpanRun : (IsReport : RoundReport → Type 0) → (alarms : Bool → List (Level × List ℕ))
    → (round : ℕ)
    → (whole : Bool) → (before after : Kept) → List AtHost → Result Unit Failure → Type 0
IsSpanRun IsReport alarms round whole before after log (Ok done) =
    IsSpan IsReport alarms round whole before after log
IsSpanRun IsReport alarms round whole before after log (Err failure) =
    IsStopped log failure × (after ≡ before)

-- The clock was looked at twice, and then the date, by which it is known when a round ended; or a
-- clock failed.
abbrev pub IsTimedRun : {T : Type 0} → (whole : Bool) → (before after : Option ℕ) → List AtHost
    → Result T Failure → Type 0
IsTimedRun whole before after log (Ok ran) = (began ended : Instant) × (date : SystemTime)
    × (log ≡ Timed began ∷ Timed ended ∷ Dated date ∷ []) × (after ≡ round_after whole date before)
IsTimedRun whole before after log (Err failure) = IsStopped log failure × (after ≡ before)

-- The clock was looked at twice, and then the date. By the second look it is known how many
-- milliseconds after the start something ended, and by the date when, in seconds since 1970.
abbrev pub IsTimedAt : (origin : Instant) → (ended seconds : ℕ) → List AtHost → Type 0
IsTimedAt origin ended seconds log = (began now : Instant) × (date : SystemTime)
    × (log ≡ Timed began ∷ Timed now ∷ Dated date ∷ [])
    × (ended ≡ milliseconds_of (instant_nanos now - instant_nanos origin))
    × (seconds ≡ milliseconds_of (system_time_nanos date) / 1000)
