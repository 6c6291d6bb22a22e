-- Steps of commands that have a log.
use Rattle.std.specs.Prelude.{◌≡◌, List, [], ◌++◌, if◌then◌else◌, Option, Some, None, Result, Ok}
use Rattle.std.specs.Prelude.{Err}
use Rattle.mon_console.specs.Failure.{IsTold, is_memory}
use Rattle.mon_console.specs.declared.failure.Failure.{Failure}
use Rattle.mon_host.specs.AtHost.{AtHost}
use Rattle.mon_host.specs.declared.level.Level.TheVariants as level

-- what a step came to: its failure is said on standard error, and returned
abbrev pub IsSaidOf : Result Unit Failure → List AtHost → Option Failure → Type 0
IsSaidOf (Ok done) log failure = (log ≡ []) × (failure ≡ None)
IsSaidOf (Err why) log failure = IsTold level.Warning why log × (failure ≡ Some why)

-- A step is done. If it fails, that is said on standard error.
pub record IsTried (Step : List AtHost → Result Unit Failure → Type 0) (log : List AtHost)
    (failure : Option Failure) : Type 0 where
  pub given : Result Unit Failure
  pub begin : List AtHost
  pub step : Step begin given
  pub rest : List AtHost
  pub said : IsSaidOf given rest failure
  pub log_is : log ≡ begin ++ rest

-- Which failure is kept: the new one, if there is one, except if memory ran out; or the one before.
abbrev pub kept_after : Option Failure → Option Failure → Option Failure
kept_after before None = before
kept_after before (Some failure) = if is_memory failure.fault then before else Some failure

-- A step is done. If it fails, that is said and kept, except if memory ran out.
pub record IsKeptOf (Step : List AtHost → Result Unit Failure → Type 0) (before : Option Failure)
    (log : List AtHost) (after : Option Failure) : Type 0 where
  pub failure : Option Failure
  pub tried : IsTried Step log failure
  pub kept : after ≡ kept_after before failure

-- what a step gave, of which only this is said
abbrev pub only : {A B F : Type 0} → (A → B) → Result A F → Result B F
only part (Ok value) = Ok (part value)
only part (Err failure) = Err failure

-- some value, or a failure of which this holds
abbrev pub SomeOr : {A : Type 0} → (Failure → Type 0) → Result A Failure → Type 0
SomeOr Holds (Ok value) = Unit {0}
SomeOr Holds (Err failure) = Holds failure
