-- What is said of a round, or of the time after it.
use Rattle.std.proofs.Common.{◌≡◌, ◌∙◌, ◌≤◌, ◌/◌, ◌++◌, ◌∷◌, Bool, List, ℕ, [], ap, false, inl, inr, length, map, refl, subst, sym, take, true}
use Rattle.std.specs.Prelude.{IfErr, IfOk, IfSome, IsErrAnd, OnOk, Option, Some, None, Result, Ok, Err, is_some}
use Rattle.std.specs.declared.alloc.AllocError.{AllocError}
use Rattle.std.specs.List.{flat_map}
use Rattle.std.specs.Time.{system_time_nanos}
use Rattle.std.specs.declared.time.Instant.{Instant}
use Rattle.std.specs.declared.time.SystemTime.{SystemTime}
use Rattle.mon_console.specs.Failure.{IsMemory, IsPlain}
use Rattle.mon_console.specs.declared.failure.Failure.{Failure}
use Rattle.mon_disk.specs.Fault.{number_of}
use Rattle.mon_disk.specs.declared.fault.KeeperFault.{KeeperFault}
use Rattle.mon_faults.specs.Fault.{station_fault}
use Rattle.mon_host.specs.declared.level.Level.{Level}
use Rattle.mon_host.specs.AtHost.{AtHost, Dated, Timed}
use Rattle.mon_host.specs.Log.{GoesOnBy}
use Rattle.mon_host.specs.Then.{Follows}
use Rattle.mon_host.proofs.Promised.{goes_on, stays, then_fails, then_follows, weaker}
use Rattle.mon_rounds.specs.Grid.{milliseconds_of}
use Rattle.mon_rounds.specs.Next.{RoundState}
use Rattle.mon_rounds.specs.Order.{IsRound, RoundEvent}
use Rattle.mon_rounds.specs.Whole.{HasRun, IsWhole, RoundsView}
use Rattle.mon_station.specs.Ran.{events_of, turns_of}
use Rattle.mon_station.specs.ReadEvent.{OwnedEvent}
use Rattle.mon_station.specs.Seen.{Seen}
use Rattle.mon_disk.specs.declared.disk.Disk.{Ghosts}
use Rattle.mon_rounds.specs.declared.changes.Change.{Change}
use Rattle.mon_rounds.specs.declared.freshness.Freshness.{Freshness}
use Rattle.mon_rounds.specs.declared.freshness.Spell.{Spell}
use Rattle.mon_rounds.specs.declared.freshness.TargetAge.{TargetAge}
use Rattle.mon_rounds.specs.declared.reporting.RoundReport.{RoundReport}
use Rattle.mon_rounds.specs.declared.round.Span.{Span}
use Rattle.mon_rounds.specs.declared.round.Span.TheVariants.{Between, Round}
use Rattle.mon_station.specs.declared.fault.StationFault.{StationFault}
use Rattle.mon_station.specs.declared.fault.StationFault.TheVariants.{OutOfMemory}
use Rattle.mon_station.specs.declared.running.Run.{Run}
use Rattle.mon_file_commands.specs.Line.{AreNoted, noted}
use Rattle.mon_station_commands.specs.Pace.{IsDate, IsPassed, IsStopped, IsWait}
use Rattle.mon_station_commands.specs.Quiet.{AreQuiet}
use Rattle.mon_station_commands.specs.Spans.{AreAlarms, AreChanges, AreTroubles, AreTroublesOf, IsAccount, IsAccountOf, IsNoReport, IsOfRun, IsOfSpan, IsReportOr, IsSavedAfter, IsSpan, IsSpanRun, IsTimedAt, IsTimedRun, IsUnsavedBy, is_round, round_after}
use Rattle.mon_station_commands.specs.Steps.{IsSaidOf, IsTried}
use Rattle.mon_station_commands.specs.Telling.{AreSaid, restart_lines, round_lines}
use Rattle.mon_station_commands.specs.Troubles.{key_of, lines_before}
use Rattle.mon_station_commands.specs.declared.live.Kept.{Kept}
use Rattle.mon_station_commands.proofs.Quiets.{are_noted, are_quiet_as, are_quiet_on, are_said, is_told_more}
use Rattle.mon_station_commands.proofs.Steps.{tried}
use Rattle.mon_udp.specs.declared.addr.Addr.{Addr}

-- `AreQuiet` holds of what is said of a span
are_alarms : (alarms : List (Level × List ℕ)) (log : List AtHost) (r : Result Unit Failure) → AreAlarms alarms log r → AreQuiet log
are_alarms alarms log (Ok done) is = are_quiet_as (map noted alarms) log is (are_said alarms)
are_alarms alarms log (Err failure) (memory, (many, is)) = are_quiet_as (map noted (take many alarms)) log is (are_said (take many alarms))

are_troubles : (whole : Bool) (round : ℕ) (log : List AtHost) (r : Result Unit Failure) → AreTroubles whole round log r → AreQuiet log
are_troubles true round log (Ok done) (fresh, changes, (facts, is, said)) = are_noted (lines_before facts round (map (key_of facts) changes) (length changes)) log said
are_troubles true round log (Err failure) (fresh, changes, (memory, (lines, said))) = are_noted lines log said
are_troubles false round log r (is, done) = are_quiet_as [] log is refl

alarms_after : (alarms : List (Level × List ℕ)) (given : Result Unit Failure) (rest : List AtHost) (r : Result Unit Failure) → Follows (λ (said : Unit). AreAlarms alarms) given rest r → AreQuiet rest
alarms_after alarms (Ok u) rest r is = are_alarms alarms rest r is
alarms_after alarms (Err failure) rest r (none, same) = are_quiet_as [] rest none refl

are_changes : (alarms : Bool → List (Level × List ℕ)) (round : ℕ) (whole : Bool) (log : List AtHost) (r : Result Unit Failure) → AreChanges alarms round whole log r → AreQuiet log
are_changes alarms round whole log r is = are_quiet_as (is.begin ++ is.rest) log is.log_is
    (are_quiet_on is.begin is.rest (are_troubles whole round is.begin is.given is.first) (alarms_after (alarms whole) is.given is.rest r is.second))

module _ (IsReport : RoundReport → Type 0) (alarms : Bool → List (Level × List ℕ)) (round : ℕ) where
  is_report : (whole : Bool) (b a : Option KeeperFault) (log : List AtHost) (r : Result Unit Failure) → IsReportOr IsReport alarms round whole b a log r → AreQuiet log
  is_report whole b a log r (inl (none, same)) = are_quiet_as [] log none.0 refl
  is_report whole b a log r (inr is) = are_quiet_as (is.begin ++ is.rest) log is.log_is
      (are_quiet_on is.begin is.rest (are_noted (round_lines round is.report ++ flat_map (restart_lines round) is.targets) is.begin is.noted) (are_changes alarms round whole is.rest r is.changed))

  is_account : (whole : Bool) (b a : Option KeeperFault) (log : List AtHost) (r : Result Unit Failure) → IsAccount IsReport alarms round whole b a log r → AreQuiet log
  is_account whole b a log r (inl is) = is_report whole b a log r is
  is_account whole b a log r (inr (none, same)) = are_quiet_as [] log none.0 refl

  is_said : (given : Result Unit Failure) (log : List AtHost) (failure : Option Failure) → IsSaidOf given log failure → AreQuiet log
  is_said (Ok done) log failure (none, same) = are_quiet_as [] log none refl
  is_said (Err why) log failure (is, same) = are_quiet_as _ log is.log_is (is_told_more _ _ _ is.rest is.more)

  is_span : (whole : Bool) (b a : Kept) (log : List AtHost) → IsSpan IsReport alarms round whole b a log → AreQuiet log
  is_span whole b a log is =
      let t = is.account in
      are_quiet_as (Timed is.began ∷ Timed is.ended ∷ Dated is.date ∷ is.rest) log is.log_is
      (are_quiet_as (t.begin ++ t.rest) is.rest t.log_is (are_quiet_on t.begin t.rest (is_account whole b.unsaved a.unsaved t.begin t.given t.step) (is_said t.given t.rest is.failure t.said)))

  as_wait : (whole : Bool) (b a : Kept) (r : Result Unit Failure) (log : List AtHost) → IsSpanRun IsReport alarms round whole b a log r → IsWait log r
  as_wait whole b a (Ok done) log is = is_span whole b a log is
  as_wait whole b a (Err failure) log is = is.0

  -- a span is a wait
  pub span_quiet : (whole : Bool) (b a : Kept) (r : Result Unit Failure) (t0 t1 : Option (List AtHost))
      → GoesOnBy (λ log. IsSpanRun IsReport alarms round whole b a log r) t0 t1 → GoesOnBy (λ log. IsWait log r) t0 t1
  span_quiet whole b a r t0 t1 = weaker (λ log. IsSpanRun IsReport alarms round whole b a log r) (λ log. IsWait log r) t0 t1 (as_wait whole b a r)

  saved_between : (b a : Option KeeperFault) (log : List AtHost) (r : Result Unit Failure) → IsAccount IsReport alarms round false b a log r → a ≡ b
  saved_between b a log r (inl (inl (none, same))) = same
  saved_between b a log r (inl (inr is)) = is.saved
  saved_between b a log r (inr (none, same)) = same

  kept_in : (b a : Kept) (r : Result Unit Failure) (log : List AtHost) → IsSpanRun IsReport alarms round false b a log r → a ≡ b
  kept_in b a (Ok done) log is =
      let saved = saved_between b.unsaved a.unsaved is.account.begin is.account.given is.account.step in
      let at : a.round_at ≡ b.round_at = is.at in
      is.kept ∙ (λ i. let k : Kept = record b { round_at = at i; unsaved = saved i } in k)
  kept_in b a (Err failure) log is = is.1

  -- between two rounds nothing is saved
  pub between_kept : (b a : Kept) (r : Result Unit Failure) (t0 t1 : Option (List AtHost))
      → GoesOnBy (λ log. IsSpanRun IsReport alarms round false b a log r) t0 t1 → a ≡ b
  between_kept b a r t0 t1 done = kept_in b a r done.more done.holds

  -- a report and what is said of it
  pub reported : (report : RoundReport) (targets : List TargetAge) (whole : Bool) (b a a2 : Option KeeperFault) (r : Result Unit Failure) (t0 t1 t2 : Option (List AtHost)) → IsReport report → a2 ≡ a
      → GoesOnBy (AreNoted (round_lines round report ++ flat_map (restart_lines round) targets)) t0 t1 → IsSavedAfter whole report b a → GoesOnBy (λ log. AreChanges alarms round whole log r) t1 t2
      → GoesOnBy (λ log. IsReportOr IsReport alarms round whole b a2 log r) t0 t2
  reported report targets whole b a a2 r t0 t1 t2 is same lines saved rest = record {
    more = lines.more ++ rest.more;
    holds = inr record {
      report = report;
      report_is = is;
      targets = targets;
      begin = lines.more;
      noted = lines.holds;
      saved = subst (λ (o : Option KeeperFault). IsSavedAfter whole report b o) (sym same) saved;
      rest = rest.more;
      changed = rest.holds;
      log_is = refl;
    };
    on = goes_on lines.more rest.more t0 t1 t2 lines.on rest.on;
  }

  -- no memory for a report
  pub unreported : (whole : Bool) (b a : Option KeeperFault) (r : Result Unit Failure) (t : Option (List AtHost)) → IsErrAnd r IsMemory → a ≡ b
      → GoesOnBy (λ log. IsReportOr IsReport alarms round whole b a log r) t t
  unreported whole b a r t is same = record { more = []; holds = inl ((refl, is), same); on = stays t }

  -- nothing was run
  pub unran : (ran : Result Spell StationFault) (fault : StationFault) (b a : Option KeeperFault) (r : Result Unit Failure) (t : Option (List AtHost)) → ran ≡ Err fault
      → IsErrAnd r (IsPlain (station_fault fault)) → a ≡ b → GoesOnBy (λ log. IsAccountOf ran IsReport alarms round b a log r) t t
  unran ran fault b a r t is why same =
      subst (λ (n : Result Spell StationFault). GoesOnBy (λ log. IsAccountOf n IsReport alarms round b a log r) t t) (sym is)
      record { more = []; holds = ((refl, why), same); on = stays t }

  account_as : (span : Span) (ran : Result Spell StationFault) (b a : Option KeeperFault) (log : List AtHost) (r : Result Unit Failure) → IfOk ran (λ spell. spell.span ≡ span)
      → IfErr ran (λ fault. fault ≡ OutOfMemory) → IsAccountOf ran IsReport alarms round b a log r → IsAccount IsReport alarms round (is_round span) b a log r
  account_as span (Ok spell) b a log r same memory is = inl (subst (λ (s : Span). IsReportOr IsReport alarms round (is_round s) b a log r) same is)
  account_as span (Err fault) b a log r same memory is =
      inr (subst (λ (f : StationFault). IsNoReport (IsPlain (station_fault f)) log r × (a ≡ b)) memory is)

  -- a span, and what is said of it: `k1` is kept after the run, and `k2` after its account
  pub span_is : (span : Span) (ran : Result Spell StationFault) (b k1 k2 a : Kept) (told : Result Unit Failure) (failure : Option Failure)
      (t0 t1 t2 t3 : Option (List AtHost)) → IfOk ran (λ spell. spell.span ≡ span) → IfErr ran (λ fault. fault ≡ OutOfMemory)
      → k1 ≡ record b { round_at = k1.round_at } → k2 ≡ record k1 { unsaved = k2.unsaved } → a ≡ k2
      → GoesOnBy (λ log. IsTimedRun (is_round span) b.round_at k1.round_at log (let r : Result (Result Spell StationFault) Failure = Ok ran in r)) t0 t1
      → GoesOnBy (λ log. IsAccountOf ran IsReport alarms round k1.unsaved k2.unsaved log told) t1 t2 → GoesOnBy (λ log. IsSaidOf told log failure) t2 t3
      → GoesOnBy (λ log. IsSpan IsReport alarms round (is_round span) b a log) t0 t3
  span_is span ran b k1 k2 a told failure t0 t1 t2 t3 same memory one two three timed account said =
      let step : GoesOnBy (λ log. IsAccount IsReport alarms round (is_round span) k1.unsaved k2.unsaved log told) t1 t2 =
      weaker (λ log. IsAccountOf ran IsReport alarms round k1.unsaved k2.unsaved log told) (λ log. IsAccount IsReport alarms round (is_round span) k1.unsaved k2.unsaved log told) t1 t2
      (λ log is. account_as span ran k1.unsaved k2.unsaved log told same memory is) account in
      let whole = tried (IsAccount IsReport alarms round (is_round span) k1.unsaved k2.unsaved) told failure t1 t2 t3 step said in
      let at : k2.round_at ≡ k1.round_at = (λ i. (two i).round_at) in
      let kept : k2 ≡ record b { round_at = k2.round_at; unsaved = k2.unsaved } =
      two ∙ ((λ i. let k : Kept = record (one i) { unsaved = k2.unsaved } in k) ∙ (λ i. let k : Kept = record b { round_at = sym at i; unsaved = k2.unsaved } in k)) in
      subst (λ (k : Kept). GoesOnBy (λ log. IsSpan IsReport alarms round (is_round span) b k log) t0 t3) (sym three)
      record {
        more = timed.more ++ whole.more;
        holds = record {
          began = timed.holds.0;
          ended = timed.holds.1;
          date = timed.holds.2;
          at = at ∙ timed.holds.4;
          kept = kept;
          rest = whole.more;
          failure = failure;
          account = subst (λ (o : Option KeeperFault). IsTried (IsAccount IsReport alarms round (is_round span) o k2.unsaved) whole.more failure) (λ i. (one i).unsaved) whole.holds;
          log_is = ap (λ (l : List AtHost). l ++ whole.more) timed.holds.3;
        };
        on = goes_on timed.more whole.more t0 t1 t3 timed.on whole.on;
      }

-- a span with its targets, events and run replaced by equal ones
pub span_of : (IsReport : List Addr → List RoundEvent → Run → RoundReport → Type 0) (targets targets2 : List Addr) (events events2 : List RoundEvent) (run run2 : Run)
    (alarms : Bool → List (Level × List ℕ)) (round : ℕ) (whole : Bool) (b a : Kept)
    (t0 t1 : Option (List AtHost)) → targets2 ≡ targets → events2 ≡ events → run2 ≡ run
    → GoesOnBy (λ log. IsSpan (IsReport targets events run) alarms round whole b a log) t0 t1
    → GoesOnBy (λ log. IsSpan (IsReport targets2 events2 run2) alarms round whole b a log) t0 t1
span_of IsReport targets targets2 events events2 run run2 alarms round whole b a t0 t1 one two three span =
    subst (λ (n : Run). GoesOnBy (λ log. IsSpan (IsReport targets2 events2 n) alarms round whole b a log) t0 t1) (sym three)
    (subst (λ (n : List RoundEvent). GoesOnBy (λ log. IsSpan (IsReport targets2 n run) alarms round whole b a log) t0 t1) (sym two)
    (subst (λ (n : List Addr). GoesOnBy (λ log. IsSpan (IsReport n events run) alarms round whole b a log) t0 t1) (sym one) span))

-- ---- a whole round, which saves or does not
as_of_span : (span : Span) (old new : RoundState) (given : List OwnedEvent) (run : Run) (report : RoundReport) → IsWhole span old new given
    → IsOfRun new.targets new.events run report → IsOfSpan span old.saves new.targets new.events run report
as_of_span Round old new given run report whole is = record {
  is_of = is;
  most = old.tries;
  peers = old.peers;
  order = subst (λ (t : List Addr). IsRound (length t) old.tries old.peers old.saves new.events) (sym whole.same.targets) whole.order;
}
as_of_span (Between milliseconds) old new given run report whole is = is

account_as_of : (IsReport Other : RoundReport → Type 0) (alarms : Bool → List (Level × List ℕ)) (round : ℕ) (ran : Result Spell StationFault) (b a : Option KeeperFault) (log : List AtHost)
    (r : Result Unit Failure) → OnOk ran ((report : RoundReport) → IsReport report → Other report) → IsAccountOf ran IsReport alarms round b a log r → IsAccountOf ran Other alarms round b a log r
account_as_of IsReport Other alarms round (Ok spell) b a log r more (inl none) = inl none
account_as_of IsReport Other alarms round (Ok spell) b a log r more (inr is) = inr record {
  report = is.report;
  report_is = more is.report is.report_is;
  targets = is.targets;
  begin = is.begin;
  noted = is.noted;
  saved = is.saved;
  rest = is.rest;
  changed = is.changed;
  log_is = is.log_is;
}
account_as_of IsReport Other alarms round (Err fault) b a log r more is = is

-- the account of a span that was run whole
pub account_whole : {X : Type 0} {G : Ghosts X} → (span : Span) (old new : RoundState) (before after : Seen RoundsView G) (run : Run) (alarms : Bool → List (Level × List ℕ)) (round : ℕ)
    (ran : Result Spell StationFault) (b a : Option KeeperFault) (r : Result Unit Failure) (t0 t1 : Option (List AtHost)) → OnOk ran (HasRun (IsWhole span old new) before after run)
    → GoesOnBy (λ log. IsAccountOf ran (IsOfRun new.targets new.events run) alarms round b a log r) t0 t1
    → GoesOnBy (λ log. IsAccountOf ran (IsOfSpan span old.saves new.targets new.events run) alarms round b a log r) t0 t1
account_whole span old new before after run alarms round ran b a r t0 t1 whole =
    weaker (λ log. IsAccountOf ran (IsOfRun new.targets new.events run) alarms round b a log r) (λ log. IsAccountOf ran (IsOfSpan span old.saves new.targets new.events run) alarms round b a log r) t0 t1
    (λ log is. account_as_of (IsOfRun new.targets new.events run) (IsOfSpan span old.saves new.targets new.events run) alarms round ran b a log r (known ran whole) is)
  where
    known : (given : Result Spell StationFault) → OnOk given (HasRun (IsWhole span old new) before after run)
        → OnOk given ((report : RoundReport) → IsOfRun new.targets new.events run report → IsOfSpan span old.saves new.targets new.events run report)
    known (Ok spell) has = λ report is. as_of_span span old new (events_of (turns_of has.ran.calls)) run report has.are is
    known (Err fault) has = has

-- a clock failed, and nothing was run
pub span_stops : (IsReport : RoundReport → Type 0) (alarms : Bool → List (Level × List ℕ)) (round : ℕ) (whole : Bool) (b a : Kept) (failure : Failure) (r : Result Unit Failure)
    (t0 t1 : Option (List AtHost)) → r ≡ Err failure → a ≡ b → GoesOnBy (λ log. IsStopped log failure) t0 t1
    → GoesOnBy (λ log. IsSpanRun IsReport alarms round whole b a log r) t0 t1
span_stops IsReport alarms round whole b a failure r t0 t1 is same stop =
    subst (λ (e : Result Unit Failure). GoesOnBy (λ log. IsSpanRun IsReport alarms round whole b a log e) t0 t1) (sym is)
    (weaker (λ log. IsStopped log failure) (λ log. IsSpanRun IsReport alarms round whole b a log (Err failure)) t0 t1 (λ log s. (s, same)) stop)

-- when a round ended, by the kind of a span
pub dated : (span : Span) (ms : ℕ) (date : SystemTime) (was is : Option ℕ) → (span ≡ Round → is ≡ Some (ms / 1000)) → ((n : ℕ) → span ≡ Between n → is ≡ was)
    → ms ≡ milliseconds_of (system_time_nanos date) → is ≡ round_after (is_round span) date was
dated Round ms date was is whole between same = whole refl ∙ ap (λ (m : ℕ). Some (m / 1000)) same
dated (Between n) ms date was is whole between same = between n refl

-- two looks at the clock, and one at the date
pub timed : {T : Type 0} → (value : T) (span : Span) (one two : Instant) (a b ms : ℕ) (was is : Option ℕ) (t0 t1 t2 t3 : Option (List AtHost))
    → GoesOnBy (λ log. IsPassed one log (Ok a)) t0 t1 → GoesOnBy (λ log. IsPassed two log (Ok b)) t1 t2 → GoesOnBy (λ log. IsDate log (Ok ms)) t2 t3
    → (span ≡ Round → is ≡ Some (ms / 1000)) → ((n : ℕ) → span ≡ Between n → is ≡ was)
    → GoesOnBy (λ log. IsTimedRun (is_round span) was is log (let r : Result T Failure = Ok value in r)) t0 t3
timed value span one two a b ms was is t0 t1 t2 t3 first second third whole between = record {
  more = (first.more ++ second.more) ++ third.more;
  holds = (
    first.holds.0,
    second.holds.0,
    third.holds.0,
    λ i. (first.holds.1 i ++ second.holds.1 i) ++ third.holds.1 i,
    dated span ms third.holds.0 was is whole between third.holds.2,
  );
  on = goes_on (first.more ++ second.more) third.more t0 t2 t3 (goes_on first.more second.more t0 t1 t2 first.on second.on) third.on;
}

-- when what ended by those did so
pub timed_at : (origin : Instant) (a b ms seconds : ℕ) (t0 t1 t2 t3 : Option (List AtHost)) → GoesOnBy (λ log. IsPassed origin log (Ok a)) t0 t1
    → GoesOnBy (λ log. IsPassed origin log (Ok b)) t1 t2 → GoesOnBy (λ log. IsDate log (Ok ms)) t2 t3 → seconds ≡ ms / 1000 → GoesOnBy (IsTimedAt origin b seconds) t0 t3
timed_at origin a b ms seconds t0 t1 t2 t3 first second third is = record {
  more = (first.more ++ second.more) ++ third.more;
  holds = (
    first.holds.0,
    second.holds.0,
    third.holds.0,
    λ i. (first.holds.1 i ++ second.holds.1 i) ++ third.holds.1 i,
    second.holds.2,
    is ∙ ap (λ (m : ℕ). m / 1000) third.holds.2,
  );
  on = goes_on (first.more ++ second.more) third.more t0 t2 t3 (goes_on first.more second.more t0 t1 t2 first.on second.on) third.on;
}

pub not_timed : {T : Type 0} → (whole : Bool) (was : Option ℕ) (failure : Failure) (r : Result T Failure) (t0 t1 : Option (List AtHost)) → r ≡ Err failure
    → GoesOnBy (λ log. IsStopped log failure) t0 t1 → GoesOnBy (λ log. IsTimedRun whole was was log r) t0 t1
not_timed {T} whole was failure r t0 t1 is stop = subst (λ (e : Result T Failure). GoesOnBy (λ log. IsTimedRun whole was was log e) t0 t1) (sym is)
    (weaker (λ log. IsStopped log failure) (λ log. IsTimedRun whole was was log (let e : Result T Failure = Err failure in e)) t0 t1 (λ log s. (s, refl)) stop)

-- lines of alarms
pub alarmed : (alarms : List (Level × List ℕ)) (done : Unit) (t0 t1 : Option (List AtHost))
    → GoesOnBy (λ log. AreSaid alarms log (let r : Result Unit AllocError = Ok done in r)) t0 t1 → GoesOnBy (λ log. AreAlarms alarms log (Ok tt)) t0 t1
alarmed alarms done t0 t1 = weaker (λ log. AreSaid alarms log (let r : Result Unit AllocError = Ok done in r)) (λ log. AreAlarms alarms log (Ok tt)) t0 t1
    (λ log is. is.log_is ∙ ap (λ (ls : List (Level × List ℕ)). map noted ls) is.all)

pub half_alarmed : (alarms : List (Level × List ℕ)) (told : Result Unit AllocError) (r : Result Unit Failure) (t0 t1 : Option (List AtHost)) → IsErrAnd r IsMemory
    → GoesOnBy (λ log. AreSaid alarms log told) t0 t1 → GoesOnBy (λ log. AreAlarms alarms log r) t0 t1
half_alarmed alarms told (Ok done) t0 t1 is said = absurd is
half_alarmed alarms told (Err failure) t0 t1 is said = weaker (λ log. AreSaid alarms log told) (λ log. AreAlarms alarms log (Err failure)) t0 t1
    (λ log some. (is, (some.many, some.log_is))) said

pub unalarmed : (alarms : List (Level × List ℕ)) (r : Result Unit Failure) (t : Option (List AtHost)) → IsErrAnd r IsMemory → GoesOnBy (λ log. AreAlarms alarms log r) t t
unalarmed alarms (Ok done) t is = absurd is
unalarmed alarms (Err failure) t is = record { more = []; holds = (is, (0, refl)); on = stays t }

-- the fault of a save, from its two halves
pub unsaved_by : (given : Option ℕ) (unsaved : Option KeeperFault) → is_some unsaved ≡ is_some given
    → IfSome unsaved (λ fault. IfSome given (λ number. 1 ≤ number → number ≤ 6 → number_of fault ≡ number)) → IsUnsavedBy given unsaved
unsaved_by None None same is = refl
unsaved_by None (Some fault) same is = absurd (let never : ⊥ = cc in never)
unsaved_by (Some number) None same is = absurd (let never : ⊥ = cc in never)
unsaved_by (Some number) (Some fault) same is = is

-- troubles of a round
pub troubles : (fresh : Freshness) (round : ℕ) (changes : List Change) (r : Result Unit Failure) (t0 t1 : Option (List AtHost))
    → GoesOnBy (λ log. AreTroublesOf fresh round changes log r) t0 t1 → GoesOnBy (λ log. AreTroubles true round log r) t0 t1
troubles fresh round changes r t0 t1 = weaker (λ log. AreTroublesOf fresh round changes log r) (λ log. AreTroubles true round log r) t0 t1 (λ log is. (fresh, changes, is))

pub no_troubles : (round : ℕ) (t : Option (List AtHost)) → GoesOnBy (λ log. AreTroubles false round log (let r : Result Unit Failure = Ok tt in r)) t t
no_troubles round t = record { more = []; holds = (refl, refl); on = stays t }

-- troubles, and then alarms
pub changes_are : (alarms : Bool → List (Level × List ℕ)) (round : ℕ) (whole : Bool) (done : Unit) (r : Result Unit Failure) (t0 t1 t2 : Option (List AtHost))
    → GoesOnBy (λ log. AreTroubles whole round log (Ok done)) t0 t1 → GoesOnBy (λ log. AreAlarms (alarms whole) log r) t1 t2 → GoesOnBy (λ log. AreChanges alarms round whole log r) t0 t2
changes_are alarms round whole done r t0 t1 t2 first second =
    then_follows (AreTroubles whole round) (λ (said : Unit {0}). AreAlarms (alarms whole)) (Ok done) r t0 t1 t2 first second

pub no_changes : (alarms : Bool → List (Level × List ℕ)) (round : ℕ) (whole : Bool) (failure : Failure) (r : Result Unit Failure) (t0 t1 : Option (List AtHost)) → r ≡ Err failure
    → GoesOnBy (λ log. AreTroubles whole round log (Err failure)) t0 t1 → GoesOnBy (λ log. AreChanges alarms round whole log r) t0 t1
no_changes alarms round whole failure r t0 t1 is first =
    subst (λ (e : Result Unit Failure). GoesOnBy (λ log. AreChanges alarms round whole log e) t0 t1) (sym is)
    (then_fails (AreTroubles whole round) (λ (said : Unit {0}). AreAlarms (alarms whole)) failure t0 t1 first)

-- a span with its alarms replaced by equal ones
pub span_shown : (IsReport : RoundReport → Type 0) (alarms other : Bool → List (Level × List ℕ)) (round : ℕ) (whole : Bool) (b a : Kept) (t0 t1 : Option (List AtHost)) → alarms ≡ other
    → GoesOnBy (λ log. IsSpan IsReport alarms round whole b a log) t0 t1 → GoesOnBy (λ log. IsSpan IsReport other round whole b a log) t0 t1
span_shown IsReport alarms other round whole b a t0 t1 same = subst (λ (f : Bool → List (Level × List ℕ)). GoesOnBy (λ log. IsSpan IsReport f round whole b a log) t0 t1) same

-- a clock that failed in a span
pub span_stopped : (IsReport : RoundReport → Type 0) (alarms : Bool → List (Level × List ℕ)) (round : ℕ) (whole : Bool) (b a : Kept) (failure : Failure) (t0 t1 : Option (List AtHost))
    → GoesOnBy (λ log. IsSpanRun IsReport alarms round whole b a log (Err failure)) t0 t1 → GoesOnBy (λ log. IsStopped log failure) t0 t1
span_stopped IsReport alarms round whole b a failure t0 t1 =
    weaker (λ log. IsSpanRun IsReport alarms round whole b a log (Err failure)) (λ log. IsStopped log failure) t0 t1 (λ log is. is.0)

-- a clock that failed in a run
pub timed_stopped : (T : Type 0) (whole : Bool) (was is : Option ℕ) (failure : Failure) (t0 t1 : Option (List AtHost))
    → GoesOnBy (λ log. IsTimedRun {T = T} whole was is log (Err failure)) t0 t1 → GoesOnBy (λ log. IsStopped log failure) t0 t1
timed_stopped T whole was is failure t0 t1 = weaker (λ log. IsTimedRun {T = T} whole was is log (Err failure)) (λ log. IsStopped log failure) t0 t1 (λ log it. it.0)
