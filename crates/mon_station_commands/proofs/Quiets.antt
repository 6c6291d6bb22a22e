-- Events of which `AreQuiet` holds, one after another.
use Rattle.std.proofs.Common.{◌≡◌, ◌∙◌, ◌++◌, ◌∷◌, ◌&&◌, Bool, List, ℕ, [], ap, append_assoc, false, inl, inr, map, refl, subst, sym, take, true}
use Rattle.std.proofs.lemmas.List.Folds.{list_all-append}
use Rattle.std.specs.List.{list_all}
use Rattle.std.specs.Prelude.{Option, Some, None, Result, Ok, Err}
use Rattle.std.specs.declared.alloc.AllocError.{AllocError}
use Rattle.std.specs.declared.time.Instant.{Instant}
use Rattle.mon_console.specs.Failure.{IsSecond, IsTold, IsToldMore}
use Rattle.mon_console.specs.declared.failure.Failure.{Failure}
use Rattle.mon_host.specs.AtHost.{AtHost, IsNoted, Noted, Undated, Untimed, Timed, Dated}
use Rattle.mon_host.specs.declared.level.Level.{Level}
use Rattle.mon_host.specs.Log.{GoesOnBy}
use Rattle.mon_host.proofs.Promised.{goes_on, stays, weaker}
use Rattle.mon_file_commands.specs.Line.{AreNoted, Line, noted}
use Rattle.mon_station_commands.specs.Pace.{IsDate, IsPassed, IsStopped, IsTime, IsWait}
use Rattle.mon_station_commands.specs.Quiet.{AreQuiet, is_quiet}
use Rattle.mon_station_commands.specs.Telling.{AreSaid}

pub are_quiet_on : (log rest : List AtHost) → AreQuiet log → AreQuiet rest → AreQuiet (log ++ rest)
are_quiet_on log rest one two = list_all-append is_quiet log rest ∙ (λ i. one i && two i)

pub are_quiet_as : (log other : List AtHost) → other ≡ log → AreQuiet log → AreQuiet other
are_quiet_as log other is quiet = ap (λ (l : List AtHost). list_all is_quiet l) is ∙ quiet

-- nothing was done
pub still : (told : Option (List AtHost)) → GoesOnBy AreQuiet told told
still told = record { more = []; holds = refl; on = stays told }

-- `AreQuiet` holds of events and of more of them, so of all of them
pub quiet_on : (before between after : Option (List AtHost)) → GoesOnBy AreQuiet before between → GoesOnBy AreQuiet between after → GoesOnBy AreQuiet before after
quiet_on before between after one two = record {
  more = one.more ++ two.more;
  holds = are_quiet_on one.more two.more one.holds two.holds;
  on = goes_on one.more two.more before between after one.on two.on;
}

-- lines
pub are_noted : (texts : List Line) (log : List AtHost) → AreNoted texts log → AreQuiet log
are_noted [] log is = are_quiet_as [] log is refl
are_noted (line ∷ lines) log (octets, rest, is, later, log_is) = are_quiet_as (Noted line.level octets ∷ rest) log log_is (are_noted lines rest later)

pub are_said : (lines : List (Level × List ℕ)) → AreQuiet (map noted lines)
are_said [] = refl
are_said (line ∷ lines) = are_said lines

is_second : (v : Level) (more : Option (List ℕ)) (log : List AtHost) → IsSecond v more log → AreQuiet log
is_second v (Some more) log is = are_quiet_as _ log is refl
is_second v None log (words, is) = are_quiet_as _ log is refl

pub is_told_more : (v : Level) (memory : Bool) (more : Option (List ℕ)) (log : List AtHost) → IsToldMore v memory more log → AreQuiet log
is_told_more v true more log is = are_quiet_as [] log is refl
is_told_more v false more log is = is_second v more log is

is_passed : (origin : Instant) (passed : ℕ) (log : List AtHost) → IsPassed origin log (Ok passed) → AreQuiet log
is_passed origin passed log (now, is, of) = are_quiet_as (Timed now ∷ []) log is refl

is_date : (date : ℕ) (log : List AtHost) → IsDate log (Ok date) → AreQuiet log
is_date date log (now, is, of) = are_quiet_as (Dated now ∷ []) log is refl

module _ (before after : Option (List AtHost)) where
  pub one_line : (v : Level) (text : Option (List ℕ)) → GoesOnBy (IsNoted v text) before after → GoesOnBy AreQuiet before after
  one_line v text = weaker (IsNoted v text) AreQuiet before after (λ log is. are_quiet_as (Noted v is.0 ∷ []) log is.2 refl)

  pub lines : (texts : List Line) → GoesOnBy (AreNoted texts) before after → GoesOnBy AreQuiet before after
  lines texts = weaker (AreNoted texts) AreQuiet before after (are_noted texts)

  pub said : (texts : List (Level × List ℕ)) (r : Result Unit AllocError) → GoesOnBy (λ log. AreSaid texts log r) before after → GoesOnBy AreQuiet before after
  said texts r = weaker (λ log. AreSaid texts log r) AreQuiet before after (λ log is. are_quiet_as _ log is.log_is (are_said (take is.many texts)))

  pub failure : (v : Level) (why : Failure) → GoesOnBy (IsTold v why) before after → GoesOnBy AreQuiet before after
  failure v why = weaker (IsTold v why) AreQuiet before after (λ log is. are_quiet_as _ log is.log_is (is_told_more v _ _ is.rest is.more))

  pub time : (now : Instant) → GoesOnBy (λ log. IsTime log (Ok now)) before after → GoesOnBy AreQuiet before after
  time now = weaker (λ log. IsTime log (Ok now)) AreQuiet before after (λ log is. are_quiet_as (Timed now ∷ []) log is refl)

  pub since : (origin : Instant) (passed : ℕ) → GoesOnBy (λ log. IsPassed origin log (Ok passed)) before after → GoesOnBy AreQuiet before after
  since origin passed = weaker (λ log. IsPassed origin log (Ok passed)) AreQuiet before after (is_passed origin passed)

  pub date : (date : ℕ) → GoesOnBy (λ log. IsDate log (Ok date)) before after → GoesOnBy AreQuiet before after
  date d = weaker (λ log. IsDate log (Ok d)) AreQuiet before after (is_date d)

-- `AreQuiet` holds up to an end, so up to any equal end
pub quiet_to : (before after other : Option (List AtHost)) → other ≡ after → GoesOnBy AreQuiet before after → GoesOnBy AreQuiet before other
quiet_to before after other is = subst (λ (t : Option (List AtHost)). GoesOnBy AreQuiet before t) (sym is)

-- events of which `AreQuiet` holds, and then a clock that failed
pub are_stopped_on : (log rest : List AtHost) (failure : Failure) → AreQuiet log → IsStopped rest failure → IsStopped (log ++ rest) failure
are_stopped_on log rest failure quiet stop = record {
  begin = log ++ stop.begin;
  quiet = are_quiet_on log stop.begin quiet stop.quiet;
  why = stop.why;
  clock = stop.clock;
  failed = stop.failed;
  failure_is = stop.failure_is;
  log_is = ap (λ (l : List AtHost). log ++ l) stop.log_is ∙ sym (append_assoc log stop.begin (stop.clock ∷ []));
}

-- a clock that failed at once
no_time : (log : List AtHost) (failure : Failure) → IsTime log (Err failure) → IsStopped log failure
no_time log failure (why, is, of) = record { begin = []; quiet = refl; why = why; clock = Untimed why; failed = inl refl; failure_is = of; log_is = is }

no_date : (log : List AtHost) (failure : Failure) → IsDate log (Err failure) → IsStopped log failure
no_date log failure (why, is, of) = record { begin = []; quiet = refl; why = why; clock = Undated why; failed = inr refl; failure_is = of; log_is = is }

module _ (failure : Failure) (before after : Option (List AtHost)) where
  pub untimed : GoesOnBy (λ log. IsTime log (Err failure)) before after → GoesOnBy (λ log. IsStopped log failure) before after
  untimed = weaker (λ log. IsTime log (Err failure)) (λ log. IsStopped log failure) before after (λ log is. no_time log failure is)

  pub undated : GoesOnBy (λ log. IsDate log (Err failure)) before after → GoesOnBy (λ log. IsStopped log failure) before after
  undated = weaker (λ log. IsDate log (Err failure)) (λ log. IsStopped log failure) before after (λ log is. no_date log failure is)

pub stopped_on : (failure : Failure) (before between after : Option (List AtHost)) → GoesOnBy AreQuiet before between → GoesOnBy (λ log. IsStopped log failure) between after
    → GoesOnBy (λ log. IsStopped log failure) before after
stopped_on failure before between after one two = record {
  more = one.more ++ two.more;
  holds = are_stopped_on one.more two.more failure one.holds two.holds;
  on = goes_on one.more two.more before between after one.on two.on;
}

-- a wait in which a clock failed
pub no_wait : {T : Type 0} → (failure : Failure) (r : Result T Failure) (before after : Option (List AtHost)) → r ≡ Err failure → GoesOnBy (λ log. IsStopped log failure) before after
    → GoesOnBy (λ log. IsWait log r) before after
no_wait {T} failure r before after is stop = subst (λ (e : Result T Failure). GoesOnBy (λ log. IsWait log e) before after) (sym is) stop
