-- Rounds of a station, one after another.
use Rattle.std.proofs.Common.{◌≡◌, ◌∙◌, ◌≢◌, ◌≤◌, ◌++◌, Bool, false, List, ℕ, [], zero, suc, refl, subst, sym, arith, ◌<◌, ◌-◌, ◌⊎◌, inl, inr, ◌+◌, option_map, string_bytes, true}
use Rattle.std.specs.Prelude.{◌↔◌, IsTrue, Option, Result, Ok, Err}
use Rattle.mon_alarms.specs.Announcing.{Announcer}
use Rattle.mon_cli.specs.declared.meaning.StationArgs.{StationArgs}
use Rattle.mon_console.specs.Printing.{IsFitted}
use Rattle.mon_console.specs.declared.failure.Failure.{Failure}
use Rattle.mon_console.specs.declared.printing.Printing.{Printing}
use Rattle.mon_host.specs.AtHost.{AtHost}
use Rattle.mon_host.specs.Log.{GoesOnBy}
use Rattle.mon_host.proofs.Promised.{goes_on, quietly, stays, then_fails, then_follows, weaker}
use Rattle.mon_host.specs.Then.{Follows, Quietly}
use Rattle.mon_rounds.specs.Totals.{IsDue}
use Rattle.mon_rounds.specs.Order.{RoundEvent}
use Rattle.mon_station.specs.declared.running.Run.{Run}
use Rattle.mon_station_commands.specs.Ending.{IsEnded}
use Rattle.mon_station_commands.specs.Following.{AreDated, IsSettingsLook}
use Rattle.mon_station_commands.specs.Keeping.{IsFileKept}
use Rattle.mon_station_commands.specs.Pace.{IsStopped}
use Rattle.mon_station_commands.specs.Quiet.{AreQuiet}
use Rattle.mon_station_commands.specs.Reporting.{IsOut, IsReported}
use Rattle.mon_station_commands.specs.Rounds.{AreRounds, AreRun, IsBetween, IsCut, IsFinish, IsLastReport, IsLastRun, IsLook, IsReportAt, IsRound, IsRoundRun, IsRun, Moment, printed_by}
use Rattle.mon_station_commands.specs.Spans.{IsOfRound, IsSpan}
use Rattle.mon_station_commands.specs.Steps.{IsKeptOf}
use Rattle.mon_station_commands.specs.Telling.{announced_notes}
use Rattle.mon_station_commands.specs.declared.live.Kept.{Kept}
use Rattle.mon_station_commands.specs.declared.live.Paths.{Paths}
use Rattle.mon_udp.specs.declared.addr.Addr.{Addr}

-- a look at the station's file, a span, and then a report
pub round_is : (round : ℕ) (saves : Bool) (printing : Printing) (paths : Paths) (targets : List Addr) (events : List RoundEvent) (run : Run) (b ran a : Kept) (moment : Moment)
    (seen : List (List ℕ)) (announcer : Announcer) (strayed : Bool) (start before between after : Option (List AtHost)) → moment.reports.printing ≡ printing → moment.round_at ≡ ran.round_at
    → a ≡ record ran { unwritten = a.unwritten }
    → GoesOnBy (λ log. IsFileKept round (string_bytes paths.file) b.strayed log strayed) start before
    → GoesOnBy (λ log. IsSpan (IsOfRound saves targets events run) (announced_notes printing round moment.state.board seen announcer) round true (let k : Kept = record b { strayed = strayed } in k) ran log) before between
    → GoesOnBy (λ log. IsOut round (option_map string_bytes paths.out) (IsReportAt moment) ran.unwritten log a.unwritten) between after → GoesOnBy (λ log. IsRound round saves printing paths b a log) start after
round_is round saves printing paths targets events run b ran a moment seen announcer strayed start before between after format at kept look first second = record {
  more = look.more ++ (first.more ++ second.more);
  holds = record {
    targets = targets;
    events = events;
    run = run;
    moment = moment;
    format = format;
    at = at ∙ (λ i. (sym kept i).round_at);
    seen = seen;
    announcer = announcer;
    strayed = strayed;
    look = look.more;
    looked = look.holds;
    ran = ran;
    begin = first.more;
    said = first.holds;
    rest = second.more;
    written = second.holds;
    kept = kept;
    log_is = refl;
  };
  on = goes_on look.more (first.more ++ second.more) start before after look.on (goes_on first.more second.more before between after first.on second.on);
}

-- a clock that failed
pub round_fails : (round : ℕ) (saves : Bool) (printing : Printing) (paths : Paths) (b a : Kept) (failure : Failure) (r : Result Unit Failure)
    (before after : Option (List AtHost)) → r ≡ Err failure → GoesOnBy (λ log. IsStopped log failure) before after
    → GoesOnBy (λ log. IsRoundRun round saves printing paths b a log r) before after
round_fails round saves printing paths b a failure r before after is stop =
    subst (λ (e : Result Unit Failure). GoesOnBy (λ log. IsRoundRun round saves printing paths b a log e) before after) (sym is) stop

-- the last round
pub last_is : (rounds : ℕ) (printing : Printing) (paths : Paths) (b a : Kept) (r : Result Unit Failure)
    (before after : Option (List AtHost)) → rounds ≢ 0 → GoesOnBy (λ log. IsRoundRun rounds true printing paths b a log r) before after
    → GoesOnBy (λ log. IsLastRun rounds printing paths b a log r) before after
last_is zero printing paths b a r before after some run = absurd (some refl)
last_is (suc n) printing paths b a (Ok done) before after some run = run
last_is (suc n) printing paths b a (Err failure) before after some run = run

last_of_all : (n rounds : ℕ) → (suc n ≤ rounds) ⊎ (suc n ≡ 1) → rounds ≤ suc n → n ≡ rounds - 1
last_of_all n rounds (inl within) paths = grind arith
last_of_all n rounds (inr first) paths = grind arith

-- a look at the settings that came to this
pub look_on : (words : StationArgs) (round : ℕ) (before after : Kept) (found ends : Bool) (t0 t1 : Option (List AtHost)) → found ≡ ends
    → after ≡ record before { settings_at = after.settings_at; ends = found }
    → GoesOnBy (λ log. IsSettingsLook words round before.settings_at log after.settings_at found) t0 t1
    → GoesOnBy (IsLook words round before after ends) t0 t1
look_on words round before after found ends t0 t1 is kept done = subst (λ (b : Bool). GoesOnBy (IsLook words round before after b) t0 t1) is
    (weaker (λ log. IsSettingsLook words round before.settings_at log after.settings_at found) (IsLook words round before after found) t0 t1
    (λ log held. record { look = held; kept = kept }) done)

module _ (words : StationArgs) (printing : Printing) (paths : Paths) (start : Kept) where
  -- a look, a round more, what is after it, and the wait
  pub one_more : (n number : ℕ) (saves : Bool) (p1 p2 : Printing) (paths1 : Paths) (k0 kl k1 k2 k3 : Kept) (u : Unit)
      (t0 t1 tl t2 t3 t4 : Option (List AtHost)) → number ≡ suc n → p1 ≡ printing → paths1 ≡ paths → p2 ≡ printing → k3 ≡ k2 → (IsTrue saves ↔ IsDue number words.timing.save_every)
      → GoesOnBy (λ log. AreRounds words printing paths start n log k0) t0 t1
      → GoesOnBy (IsLook words number k0 kl false) t1 tl
      → GoesOnBy (λ log. IsRoundRun number saves p1 paths1 kl k1 log (Ok u)) tl t2 → GoesOnBy (λ log. IsBetween number words.timing.report_every p2 k1 log k2) t2 t3
      → GoesOnBy AreQuiet t3 t4 → GoesOnBy (λ log. AreRounds words printing paths start (suc n) log k3) t0 t4
  one_more n number saves p1 p2 paths1 k0 kl k1 k2 k3 u t0 t1 tl t2 t3 t4 count same1 sameo same2 last is_due first look ran due quiet = record {
    more = (((first.more ++ look.more) ++ ran.more) ++ due.more) ++ quiet.more;
    holds = record {
      before = k0;
      begin = first.more;
      earlier = first.holds;
      looked = kl;
      look = look.more;
      look_is = subst (λ (k : ℕ). IsLook words k k0 kl false look.more) count look.holds;
      ran = k1;
      run = ran.more;
      saves = saves;
      due = subst (λ (k : ℕ). IsTrue saves ↔ IsDue k words.timing.save_every) count is_due;
      round_is = subst (λ (k : ℕ). IsRound k saves printing paths kl k1 ran.more) count
          (subst (λ (p : Printing). IsRound number saves p paths kl k1 ran.more) same1
          (subst (λ (o : Paths). IsRound number saves p1 o kl k1 ran.more) sameo ran.holds));
      told = due.more;
      between = subst (λ (k : ℕ). IsBetween k words.timing.report_every printing k1 due.more k3) count
          (subst (λ (p : Printing). IsBetween number words.timing.report_every p k1 due.more k3) same2
          (subst (λ (k : Kept). IsBetween number words.timing.report_every p2 k1 due.more k) (sym last) due.holds));
      rest = quiet.more;
      quiet = quiet.holds;
      log_is = refl;
    };
    on = goes_on (((first.more ++ look.more) ++ ran.more) ++ due.more) quiet.more t0 t3 t4 (goes_on ((first.more ++ look.more) ++ ran.more) due.more t0 t2 t3
        (goes_on (first.more ++ look.more) ran.more t0 tl t2 (goes_on first.more look.more t0 t1 tl first.on look.on) ran.on) due.on) quiet.on;
  }

-- a report that was due
pub due_is : (number every : ℕ) (printing : Printing) (moment : Moment) (before kept : Kept) (t0 t1 : Option (List AtHost)) → IsDue number every → moment.reports.printing ≡ printing
    → moment.round_at ≡ before.round_at → kept ≡ record before { unprinted = kept.unprinted }
    → GoesOnBy (λ log. IsKeptOf (IsReported (IsReportAt moment)) before.unprinted log kept.unprinted) t0 t1 → GoesOnBy (λ log. IsBetween number every printing before log kept) t0 t1
due_is number every printing moment before kept t0 t1 due format at same done = record {
  more = done.more;
  holds = inl (due, record { moment = moment; format = format; at = at; kept_is = done.holds; kept = same });
  on = done.on;
}

module _ (words : StationArgs) (p : Printing) (o : Paths) (start : Kept) where
  -- before the first round
  pub none_yet : (k after : Kept) (t0 t1 t2 : Option (List AtHost)) → after ≡ k → k ≡ record start { settings_at = k.settings_at }
      → GoesOnBy (λ log. AreDated words log k.settings_at) t0 t1 → GoesOnBy AreQuiet t1 t2 → GoesOnBy (λ log. AreRounds words p o start zero log after) t0 t2
  none_yet k after t0 t1 t2 same is dated quiet = subst (λ (a : Kept). GoesOnBy (λ log. AreRounds words p o start zero log a) t0 t2) (sym same) record {
    more = dated.more ++ quiet.more;
    holds = record { begin = dated.more; dated = dated.holds; kept = is; rest = quiet.more; quiet = quiet.holds; log_is = refl };
    on = goes_on dated.more quiet.more t0 t1 t2 dated.on quiet.on;
  }

  -- a clock failed, after no look or after one
  pub cut_at_once : (round : ℕ) (k : Kept) (failure : Failure) (t0 t1 : Option (List AtHost)) → GoesOnBy (λ log. IsStopped log failure) t0 t1
      → GoesOnBy (λ log. IsCut round words k log failure) t0 t1
  cut_at_once round k failure t0 t1 = weaker (λ log. IsStopped log failure) (λ log. IsCut round words k log failure) t0 t1 (λ log is. inl is)

  pub cut_after : (round : ℕ) (k kl : Kept) (ends : Bool) (failure : Failure) (t0 t1 t2 : Option (List AtHost)) → GoesOnBy (IsLook words round k kl ends) t0 t1
      → GoesOnBy (λ log. IsStopped log failure) t1 t2 → GoesOnBy (λ log. IsCut round words k log failure) t0 t2
  cut_after round k kl ends failure t0 t1 t2 look stop = record {
    more = look.more ++ stop.more;
    holds = inr (kl, ends, look.more, look.holds, stop.more, stop.holds, refl);
    on = goes_on look.more stop.more t0 t1 t2 look.on stop.on;
  }

  -- a clock failed after a look, in round n + 1
  pub cut_on : (n number : ℕ) (k kl : Kept) (failure : Failure) (t0 t1 t2 : Option (List AtHost)) → number ≡ suc n → GoesOnBy (IsLook words number k kl false) t0 t1
      → GoesOnBy (λ log. IsStopped log failure) t1 t2 → GoesOnBy (λ log. IsCut (suc n) words k log failure) t0 t2
  cut_on n number k kl failure t0 t1 t2 is look stop = subst (λ (m : ℕ). GoesOnBy (λ log. IsCut m words k log failure) t0 t2) is
      (cut_after number k kl false failure t0 t1 t2 look stop)

  -- a clock failed after `n` rounds
  pub stopped : (n : ℕ) (k after : Kept) (failure : Failure) (r : Result Unit Failure) (t0 t1 t2 : Option (List AtHost)) → r ≡ Err failure → n ≤ words.timing.rounds
      → GoesOnBy (λ log. AreRounds words p o start n log k) t0 t1 → GoesOnBy (λ log. IsCut (suc n) words k log failure) t1 t2
      → GoesOnBy (λ log. AreRun words p o start log after r) t0 t2
  stopped n k after failure r t0 t1 t2 is within ran stop =
      subst (λ (e : Result Unit Failure). GoesOnBy (λ log. AreRun words p o start log after e) t0 t2) (sym is)
      record {
        more = ran.more ++ stop.more;
        holds = record { ran = n; within = within; after = k; begin = ran.more; earlier = ran.holds; rest = stop.more; stopped = stop.holds; log_is = refl };
        on = goes_on ran.more stop.more t0 t1 t2 ran.on stop.on;
      }

  -- the last round after the others
  pub all_run : (n : ℕ) (k after : Kept) (r : Result Unit Failure) (t0 t1 t2 : Option (List AtHost)) → n ≡ words.timing.rounds - 1
      → GoesOnBy (λ log. AreRounds words p o start n log k) t0 t1 → GoesOnBy (λ log. IsLastRun words.timing.rounds p o k after log r) t1 t2
      → GoesOnBy (λ log. AreRun words p o start log after r) t0 t2
  all_run n k after (Ok done) t0 t1 t2 count first last = record {
    more = first.more ++ last.more;
    holds = record {
      ran = n;
      before = k;
      begin = first.more;
      earlier = first.holds;
      rest = last.more;
      last = inl (count, last.holds);
      log_is = refl;
    };
    on = goes_on first.more last.more t0 t1 t2 first.on last.on;
  }
  all_run n k after (Err failure) t0 t1 t2 count first last =
      stopped n k after failure (Err failure) t0 t1 t2 refl (let within : n ≤ words.timing.rounds = grind arith in within) first
      (cut_at_once (suc n) k failure t1 t2 last)

  -- the last round before the others, since the settings changed
  pub ended_by : (n number : ℕ) (p1 : Printing) (paths1 : Paths) (k kl after : Kept) (r : Result Unit Failure) (t0 t1 t2 t3 : Option (List AtHost)) → number ≡ suc n → number < words.timing.rounds
      → p1 ≡ p → paths1 ≡ o → GoesOnBy (λ log. AreRounds words p o start n log k) t0 t1 → GoesOnBy (IsLook words number k kl true) t1 t2
      → GoesOnBy (λ log. IsRoundRun number true p1 paths1 kl after log r) t2 t3 → GoesOnBy (λ log. AreRun words p o start log after r) t0 t3
  ended_by n number p1 paths1 k kl after (Ok done) t0 t1 t2 t3 count within same sameo first look last = record {
    more = first.more ++ (look.more ++ last.more);
    holds = record {
      ran = n;
      before = k;
      begin = first.more;
      earlier = first.holds;
      rest = look.more ++ last.more;
      last = inr (
        subst (λ (m : ℕ). m < words.timing.rounds) count within,
        record {
          looked = kl;
          look = look.more;
          look_is = subst (λ (m : ℕ). IsLook words m k kl true look.more) count look.holds;
          rest = last.more;
          round_is = subst (λ (m : ℕ). IsRound m true p o kl after last.more) count
              (subst (λ (q : Printing). IsRound number true q o kl after last.more) same
              (subst (λ (q : Paths). IsRound number true p1 q kl after last.more) sameo last.holds));
          log_is = refl;
        },
      );
      log_is = refl;
    };
    on = goes_on first.more (look.more ++ last.more) t0 t1 t3 first.on (goes_on look.more last.more t1 t2 t3 look.on last.on);
  }
  ended_by n number p1 paths1 k kl after (Err failure) t0 t1 t2 t3 count within same sameo first look last =
      stopped n k after failure (Err failure) t0 t1 t3 refl (let fits : n ≤ words.timing.rounds = grind arith in fits) first
      (cut_after (suc n) k kl true failure t1 t2 t3 (subst (λ (m : ℕ). GoesOnBy (IsLook words m k kl true) t1 t2) count look) last)

  -- all of a run
  pub run_is : (k : Kept) (moment : Moment) (ran result : Result Unit Failure) (t0 t1 t2 : Option (List AtHost)) → moment.reports.printing ≡ p
      → moment.round_at ≡ k.round_at
      → GoesOnBy (λ log. AreRun words p o start log k ran) t0 t1 → GoesOnBy (λ log. Follows (λ done. IsFinish moment k) ran log result) t1 t2
      → GoesOnBy (λ log. IsRun words p o start log result) t0 t2
  run_is k moment ran result t0 t1 t2 format at first then = record {
    more = first.more ++ then.more;
    holds = record {
      after = k;
      ran = ran;
      begin = first.more;
      rounds_are = first.holds;
      moment = moment;
      format = format;
      at = at;
      rest = then.more;
      finish = then.holds;
      log_is = refl;
    };
    on = goes_on first.more then.more t0 t1 t2 first.on then.on;
  }

-- nothing after a failure
pub not_finished : (moment : Moment) (k : Kept) (failure : Failure) (result : Result Unit Failure) (told : Option (List AtHost)) → result ≡ Err failure
    → GoesOnBy (λ log. Follows (λ done. IsFinish moment k) (let r : Result Unit Failure = Err failure in r) log result) told told
not_finished moment k failure result told is = record { more = []; holds = (refl, is); on = stays told }

-- the last report, and how the run ends
pub finished : (moment : Moment) (end k : Kept) (done : Unit) (result : Result Unit Failure) (t0 t1 : Option (List AtHost)) → end ≡ k
    → GoesOnBy (λ log. IsLastReport moment log (Ok done)) t0 t1
    → IsEnded end.unsaved end.unprinted end.unwritten end.ends result → GoesOnBy (λ log. IsFinish moment k log result) t0 t1
finished moment end k done result t0 t1 same report is =
    then_follows (IsLastReport moment) (λ (d : Unit). Quietly (IsEnded k.unsaved k.unprinted k.unwritten k.ends)) (Ok done) result t0 t1 t1 report
    (quietly (IsEnded k.unsaved k.unprinted k.unwritten k.ends) result t1
    (subst (λ (f : Kept). IsEnded f.unsaved f.unprinted f.unwritten f.ends result) same is))

pub unfinished : (moment : Moment) (k : Kept) (failure : Failure) (result : Result Unit Failure) (t0 t1 : Option (List AtHost)) → result ≡ Err failure
    → GoesOnBy (λ log. IsLastReport moment log (Err failure)) t0 t1 → GoesOnBy (λ log. IsFinish moment k log result) t0 t1
unfinished moment k failure result t0 t1 is report =
    subst (λ (r : Result Unit Failure). GoesOnBy (λ log. IsFinish moment k log r) t0 t1) (sym is)
    (then_fails (IsLastReport moment) (λ (d : Unit). Quietly (IsEnded k.unsaved k.unprinted k.unwritten k.ends)) failure t0 t1 report)

pub one_on : (n number : ℕ) → number ≡ suc n → number + 1 ≡ suc (suc n)
one_on n number is = grind arith

pub within : (n number rounds : ℕ) → number ≡ suc n → number < rounds → n ≤ rounds
within n number rounds is less = grind arith

pub within_less : (n number rounds : ℕ) → number ≡ suc n → number < rounds → suc n ≤ rounds
within_less n number rounds is less = grind arith

pub within_one : (n number rounds : ℕ) → number ≡ suc n → number < rounds → suc (suc n) ≤ rounds
within_one n number rounds is less = grind arith

pub from_zero : (n : ℕ) → 0 ≤ n
from_zero n = omega arith

at_last : (n number rounds : ℕ) → number ≡ suc n → (suc n ≤ rounds) ⊎ (suc n ≡ 1) → rounds ≤ number → n ≡ rounds - 1
at_last n number rounds is so paths = last_of_all n rounds so (subst (λ (k : ℕ). rounds ≤ k) is paths)

pub all_run_as : (words : StationArgs) (p : Printing) (paths : Paths) (start : Kept) (n number : ℕ) (p1 : Printing) (paths1 : Paths) (k after : Kept)
    (r : Result Unit Failure) (t0 t1 t2 : Option (List AtHost)) → number ≡ suc n → (suc n ≤ words.timing.rounds) ⊎ (suc n ≡ 1) → words.timing.rounds ≤ number → p1 ≡ p → paths1 ≡ paths
    → GoesOnBy (λ log. AreRounds words p paths start n log k) t0 t1
    → GoesOnBy (λ log. IsLastRun words.timing.rounds p1 paths1 k after log r) t1 t2
    → GoesOnBy (λ log. AreRun words p paths start log after r) t0 t2
all_run_as words p paths start n number p1 paths1 k after r t0 t1 t2 count so over same sameo first last =
    all_run words p paths start n k after r t0 t1 t2 (at_last n number words.timing.rounds count so over) first
    (subst (λ (q : Printing). GoesOnBy (λ log. IsLastRun words.timing.rounds q paths k after log r) t1 t2) same
    (subst (λ (q : Paths). GoesOnBy (λ log. IsLastRun words.timing.rounds p1 q k after log r) t1 t2) sameo last))

-- the last report, after standard output was looked at
pub last_report : (moment : Moment) (last : Printing) (r : Result Unit Failure) (t0 t1 t2 : Option (List AtHost)) → GoesOnBy (IsFitted moment.reports.printing last) t0 t1
    → GoesOnBy (λ log. IsReported (IsReportAt (printed_by last moment)) log r) t1 t2 → GoesOnBy (λ log. IsLastReport moment log r) t0 t2
last_report moment last r t0 t1 t2 look report = record {
  more = look.more ++ report.more;
  holds = record { last = last; look = look.more; fitted = look.holds; rest = report.more; reported = report.holds; log_is = refl };
  on = goes_on look.more report.more t0 t1 t2 look.on report.on;
}
