-- What a clock of the surroundings gives.
use Rattle.std.specs.Prelude.{◌≡◌, ◌⊎◌, ◌∷◌, ◌++◌, ◌-◌, [], ℕ, List, Result, Ok, Err, codes}
use Rattle.std.specs.Time.{instant_nanos, system_time_nanos}
use Rattle.std.specs.declared.time.Instant.{Instant}
use Rattle.std.specs.declared.time.SystemTime.{SystemTime}
use Rattle.mon_console.specs.Failure.{IsOfStream}
use Rattle.mon_console.specs.declared.failure.Failure.{Failure}
use Rattle.mon_host.specs.AtHost.{AtHost, Dated, Timed, Undated, Untimed}
use Rattle.mon_host.specs.Reason.{Why}
use Rattle.mon_rounds.specs.Grid.{milliseconds_of}
use Rattle.mon_station_commands.specs.Quiet.{AreQuiet}

-- the clock returned the time; or it failed, which the failure says
abbrev pub IsTime : List AtHost → Result Instant Failure → Type 0
IsTime log (Ok now) = log ≡ Timed now ∷ []
IsTime log (Err failure) = (why : Why) × (log ≡ Untimed why ∷ [])
    × IsOfStream (codes "the clock") why failure

-- the clock returned a time, this many milliseconds after another one; or it failed
abbrev pub IsPassed : (origin : Instant) → List AtHost → Result ℕ Failure → Type 0
IsPassed origin log (Ok passed) = (now : Instant) × (log ≡ Timed now ∷ [])
    × (passed ≡ milliseconds_of (instant_nanos now - instant_nanos origin))
IsPassed origin log (Err failure) = IsTime log (Err failure)

-- the wall clock returned a time, this many milliseconds after the start of 1970; or it failed
abbrev pub IsDate : List AtHost → Result ℕ Failure → Type 0
IsDate log (Ok date) = (now : SystemTime) × (log ≡ Dated now ∷ [])
    × (date ≡ milliseconds_of (system_time_nanos now))
IsDate log (Err failure) = (why : Why) × (log ≡ Undated why ∷ [])
    × IsOfStream (codes "the clock") why failure

-- A clock failed, which the failure says. `AreQuiet` holds of what happened before that.
pub record IsStopped (log : List AtHost) (failure : Failure) : Type 0 where
  pub begin : List AtHost
  pub quiet : AreQuiet begin
  pub why : Why
  pub clock : AtHost
  pub failed : (clock ≡ Untimed why) ⊎ (clock ≡ Undated why)
  pub failure_is : IsOfStream (codes "the clock") why failure
  pub log_is : log ≡ begin ++ clock ∷ []

-- `AreQuiet` holds, unless a clock failed
abbrev pub IsWait : {T : Type 0} → List AtHost → Result T Failure → Type 0
IsWait log (Ok done) = AreQuiet log
IsWait log (Err failure) = IsStopped log failure
