-- The command `station --check`.
use Rattle.std.proofs.Common.{◌≡◌, List, ℕ, string_bytes, subst, sym}
use Rattle.std.specs.Prelude.{Option, Result, Ok, Err}
use Rattle.mon_cli.specs.declared.meaning.Printed.{Printed}
use Rattle.mon_console.specs.Labelled.{IsLabelled}
use Rattle.mon_console.specs.declared.failure.Failure.{Failure}
use Rattle.mon_console.specs.declared.printing.Printing.{Printing}
use Rattle.mon_host.specs.AtHost.{AtHost}
use Rattle.mon_host.specs.Log.{GoesOnBy}
use Rattle.mon_host.specs.Then.{Quietly, Then}
use Rattle.mon_host.proofs.Promised.{quietly, then_fails, then_follows}
use Rattle.mon_settings.specs.declared.station.StationSettings.{StationSettings}
use Rattle.mon_station_commands.specs.Checking.{AreLimits, HasFile, IsCheck}

module _ (path : List ℕ) (labels : Option (List ℕ)) (printed : Printed) (interval : ℕ) (s : StationSettings) (printing : Printing) where
  abbrev AfterSettings : StationSettings × Printing → List AtHost → Result Unit Failure → Type 0
  AfterSettings both = Then (Quietly (HasFile (string_bytes both.0.file))) (λ (has : Unit {0}). AreLimits both.0 interval)

  -- the settings name no file
  pub fileless : (own : List ℕ) (failure : Failure) (r : Result Unit Failure) (t0 t1 : Option (List AtHost)) → r ≡ Err failure → own ≡ string_bytes s.file
      → GoesOnBy (λ log. IsLabelled path labels printed log (Ok (s, printing))) t0 t1 → HasFile own (Err failure) → GoesOnBy (λ log. IsCheck path labels printed interval log r) t0 t1
  fileless own failure r t0 t1 is same read why =
      subst (λ (e : Result Unit Failure). GoesOnBy (λ log. IsCheck path labels printed interval log e) t0 t1) (sym is)
      (then_follows (IsLabelled path labels printed) AfterSettings (Ok (s, printing)) (Err failure) t0 t1 t1 read
      (then_fails (Quietly (HasFile (string_bytes s.file))) (λ (has : Unit {0}). AreLimits s interval) failure t1 t1
      (quietly (HasFile (string_bytes s.file)) (Err failure) t1 (subst (λ (f : List ℕ). HasFile f (let e : Result Unit Failure = Err failure in e)) same why))))

  -- they name one, and what limits the station is printed
  pub checked : (own : List ℕ) (done : Unit) (r : Result Unit Failure) (t0 t1 t2 : Option (List AtHost)) → own ≡ string_bytes s.file
      → GoesOnBy (λ log. IsLabelled path labels printed log (Ok (s, printing))) t0 t1 → HasFile own (Ok done) → GoesOnBy (λ log. AreLimits s interval log r) t1 t2
      → GoesOnBy (λ log. IsCheck path labels printed interval log r) t0 t2
  checked own done r t0 t1 t2 same read has limits =
      then_follows (IsLabelled path labels printed) AfterSettings (Ok (s, printing)) r t0 t1 t2 read
      (then_follows (Quietly (HasFile (string_bytes s.file))) (λ (has : Unit {0}). AreLimits s interval) (Ok done) r t1 t1 t2
      (quietly (HasFile (string_bytes s.file)) (Ok done) t1 (subst (λ (f : List ℕ). HasFile f (let e : Result Unit Failure = Ok done in e)) same has)) limits)
