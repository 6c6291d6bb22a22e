-- The command `station`, from its arguments on.
use Rattle.std.proofs.Common.{◌≡◌, List, option_map, subst, sym}
use Rattle.std.specs.Prelude.{Option, Result, Ok, Err, option_copied}
use Rattle.mon_cli.specs.declared.meaning.StationArgs.{StationArgs}
use Rattle.mon_console.specs.Labelled.{IsLabelled}
use Rattle.mon_console.specs.declared.failure.Failure.{Failure}
use Rattle.mon_console.specs.declared.printing.Printing.{Printing}
use Rattle.mon_host.specs.AtHost.{AtHost}
use Rattle.mon_host.specs.Log.{GoesOnBy}
use Rattle.mon_host.specs.Then.{Quietly, Then}
use Rattle.mon_host.proofs.Promised.{quietly, then_fails, then_follows}
use Rattle.mon_settings.specs.declared.station.StationSettings.{StationSettings}
use Rattle.mon_station_commands.specs.Notifying.{Courier, IsCourier}
use Rattle.mon_station_commands.specs.Places.{IsHttpAddress}
use Rattle.mon_station_commands.specs.Station.{AreReports, IsRunning, IsSeenIf}
use Rattle.mon_file_commands.specs.Steps.{OrMemory}
use Rattle.mon_station_commands.specs.declared.live.Reports.{Reports}
use Rattle.mon_udp.specs.declared.addr.Addr.{Addr}

module _ (words : StationArgs) where
  abbrev Gives : Result (Option Addr) Failure → Type 0
  Gives = IsHttpAddress (option_copied words.http)

  abbrev Carries : Result (Option Courier) Failure → Type 0
  Carries = IsCourier (option_copied words.notify)

  abbrev Reads : List AtHost → Result (StationSettings × Printing) Failure → Type 0
  Reads = IsLabelled words.settings.now (option_map (λ l. l.now) words.labels) words.printed

  abbrev Makes : StationSettings → Printing → Result Reports Failure → Type 0
  Makes s printing = OrMemory (AreReports words s printing)

  abbrev AfterReports : Option Addr → StationSettings → Reports → List AtHost → Result Unit Failure → Type 0
  AfterReports http_at s reports = IsSeenIf http_at words reports s

  abbrev AfterSettings : Option Addr → StationSettings × Printing → List AtHost → Result Unit Failure → Type 0
  AfterSettings http_at both = Then (Quietly (Makes both.0 both.1)) (AfterReports http_at both.0)

  abbrev AfterCourier : Option Addr → List AtHost → Result Unit Failure → Type 0
  AfterCourier http_at = Then Reads (AfterSettings http_at)

  abbrev AfterAddress : Option Addr → List AtHost → Result Unit Failure → Type 0
  AfterAddress http_at = Then (Quietly Carries) (λ (courier : Option Courier). AfterCourier http_at)

  pub no_address : (failure : Failure) (r : Result Unit Failure) (t : Option (List AtHost)) → r ≡ Err failure → Gives (Err failure) → GoesOnBy (λ log. IsRunning words log r) t t
  no_address failure r t is why =
      subst (λ (e : Result Unit Failure). GoesOnBy (λ log. IsRunning words log e) t t) (sym is)
      (then_fails (Quietly Gives) AfterAddress failure t t (quietly Gives (Err failure) t why))

  after_address : (http_at : Option Addr) (r : Result Unit Failure) (t0 t1 : Option (List AtHost)) → Gives (Ok http_at) → GoesOnBy (λ log. AfterAddress http_at log r) t0 t1
      → GoesOnBy (λ log. IsRunning words log r) t0 t1
  after_address http_at r t0 t1 given rest = then_follows (Quietly Gives) AfterAddress (Ok http_at) r t0 t0 t1 (quietly Gives (Ok http_at) t0 given) rest

  pub no_courier : (http_at : Option Addr) (failure : Failure) (r : Result Unit Failure) (t : Option (List AtHost)) → r ≡ Err failure → Gives (Ok http_at) → Carries (Err failure)
      → GoesOnBy (λ log. IsRunning words log r) t t
  no_courier http_at failure r t is given why =
      subst (λ (e : Result Unit Failure). GoesOnBy (λ log. IsRunning words log e) t t) (sym is)
      (after_address http_at (Err failure) t t given (then_fails (Quietly Carries) (λ (courier : Option Courier). AfterCourier http_at) failure t t (quietly Carries (Err failure) t why)))

  after_courier : (http_at : Option Addr) (courier : Option Courier) (r : Result Unit Failure) (t0 t1 : Option (List AtHost)) → Gives (Ok http_at) → Carries (Ok courier)
      → GoesOnBy (λ log. AfterCourier http_at log r) t0 t1 → GoesOnBy (λ log. IsRunning words log r) t0 t1
  after_courier http_at courier r t0 t1 given carried rest =
      after_address http_at r t0 t1 given
      (then_follows (Quietly Carries) (λ (courier : Option Courier). AfterCourier http_at) (Ok courier) r t0 t0 t1 (quietly Carries (Ok courier) t0 carried) rest)

  pub no_settings : (http_at : Option Addr) (courier : Option Courier) (failure : Failure) (r : Result Unit Failure) (t0 t1 : Option (List AtHost)) → r ≡ Err failure → Gives (Ok http_at)
      → Carries (Ok courier) → GoesOnBy (λ log. Reads log (Err failure)) t0 t1 → GoesOnBy (λ log. IsRunning words log r) t0 t1
  no_settings http_at courier failure r t0 t1 is given carried why =
      subst (λ (e : Result Unit Failure). GoesOnBy (λ log. IsRunning words log e) t0 t1) (sym is)
      (after_courier http_at courier (Err failure) t0 t1 given carried (then_fails Reads (AfterSettings http_at) failure t0 t1 why))

  after_settings : (http_at : Option Addr) (courier : Option Courier) (both : StationSettings × Printing) (r : Result Unit Failure) (t0 t1 t2 : Option (List AtHost)) → Gives (Ok http_at)
      → Carries (Ok courier)
      → GoesOnBy (λ log. Reads log (Ok both)) t0 t1 → GoesOnBy (λ log. AfterSettings http_at both log r) t1 t2 → GoesOnBy (λ log. IsRunning words log r) t0 t2
  after_settings http_at courier both r t0 t1 t2 given carried read rest =
      after_courier http_at courier r t0 t2 given carried (then_follows Reads (AfterSettings http_at) (Ok both) r t0 t1 t2 read rest)

  pub no_reports : (http_at : Option Addr) (courier : Option Courier) (s : StationSettings) (printing : Printing) (failure : Failure) (r : Result Unit Failure) (t0 t1 : Option (List AtHost)) → r ≡ Err failure
      → Gives (Ok http_at) → Carries (Ok courier) → GoesOnBy (λ log. Reads log (Ok (s, printing))) t0 t1 → Makes s printing (Err failure) → GoesOnBy (λ log. IsRunning words log r) t0 t1
  no_reports http_at courier s printing failure r t0 t1 is given carried read why =
      subst (λ (e : Result Unit Failure). GoesOnBy (λ log. IsRunning words log e) t0 t1) (sym is)
      (after_settings http_at courier (s, printing) (Err failure) t0 t1 t1 given carried read
      (then_fails (Quietly (Makes s printing)) (AfterReports http_at s) failure t1 t1 (quietly (Makes s printing) (Err failure) t1 why)))

  pub words_run : (http_at : Option Addr) (courier : Option Courier) (s : StationSettings) (printing : Printing) (reports : Reports) (r : Result Unit Failure) (t0 t1 t2 : Option (List AtHost))
      → Gives (Ok http_at) → Carries (Ok courier) → GoesOnBy (λ log. Reads log (Ok (s, printing))) t0 t1 → Makes s printing (Ok reports)
      → GoesOnBy (λ log. IsSeenIf http_at words reports s log r) t1 t2 → GoesOnBy (λ log. IsRunning words log r) t0 t2
  words_run http_at courier s printing reports r t0 t1 t2 given carried read made run =
      after_settings http_at courier (s, printing) r t0 t1 t2 given carried read
      (then_follows (Quietly (Makes s printing)) (AfterReports http_at s) (Ok reports) r t1 t1 t2 (quietly (Makes s printing) (Ok reports) t1 made) run)
