-- The command `station`: what is read, opened and said before the first round, and then the rounds.
use Rattle.std.specs.Prelude.{◌≡◌, ℕ, Bool, true, false, List, [], ◌∷◌, Option, Some, None, Result}
use Rattle.std.specs.Prelude.{Ok, length, option_copied, option_map, string_bytes}
use Rattle.std.specs.declared.net.socket_addr.SocketAddr.{SocketAddr}
use Rattle.mon_cli.specs.declared.meaning.StationArgs.{StationArgs}
use Rattle.mon_console.specs.Labelled.{IsLabelled}
use Rattle.mon_console.specs.declared.failure.Failure.{Failure}
use Rattle.mon_console.specs.declared.printing.Printing.{Printing}
use Rattle.mon_host.specs.declared.level.Level.TheVariants as level
use Rattle.mon_host.specs.AtHost.{AtHost, LevelsShown, Noted}
use Rattle.mon_host.specs.Then.{Quietly, Then}
use Rattle.mon_settings.specs.declared.station.StationSettings.{StationSettings}
use Rattle.mon_station.specs.State.{State}
use Rattle.mon_station_commands.specs.Checking.{IsCheck}
use Rattle.mon_station_commands.specs.Notifying.{IsCourier}
use Rattle.mon_station_commands.specs.Places.{IsHttpAddress, IsNoSocket, IsShownOpened}
use Rattle.mon_station_commands.specs.Places.{IsUnseenOpened}
use Rattle.mon_station_commands.specs.Rounds.{IsRun, nothing_kept}
use Rattle.mon_file_commands.specs.Steps.{OrMemory}
use Rattle.mon_station_commands.specs.Steps.{SomeOr}
use Rattle.mon_station_commands.specs.Telling.{IsOpening, http_line}
use Rattle.mon_station_commands.specs.declared.live.Paths.{Paths}
use Rattle.mon_station_commands.specs.declared.live.Reports.{Reports}
use Rattle.mon_udp.specs.declared.addr.Addr.{Addr}

-- the paths of the file for each round's report, if there is one, and of the station's own
pub record ArePaths (out : Option (List ℕ)) (file : List ℕ) (paths : Paths) : Type 0 where
  pub out_is : option_map string_bytes paths.out ≡ out
  pub file_is : string_bytes paths.file ≡ file

-- How the reports of the station of these settings are printed, and what else the arguments say of
-- them.
pub record AreReports (words : StationArgs) (s : StationSettings) (printing : Printing)
    (reports : Reports) : Type 0 where
  pub station_is : reports.station ≡ s.core.station
  pub printed : reports.printing ≡ printing
  pub paths : ArePaths (option_copied words.out) (string_bytes s.file) reports.paths
  pub stale_after : reports.stale_after ≡ words.stale_after
  pub alarm_after : reports.alarm_after ≡ words.alarm_after
  pub interval : reports.interval ≡ words.timing.interval

-- The station of settings begins at this address, and says so; or it doesn't.
abbrev pub IsStarted : Printing → StationSettings → SocketAddr → List AtHost
    → Result State Failure → Type 0
IsStarted printing s at = IsOpening s.core.station at (string_bytes s.file) (length s.core.targets)
    (length s.core.peers) printing

-- the line of where HTTP is served, if it is
abbrev pub IsWebSaid : Option SocketAddr → List AtHost → Result Unit Failure → Type 0
IsWebSaid None log result = (log ≡ []) × (result ≡ Ok tt)
IsWebSaid (Some at) log result = (log ≡ Noted level.Info (http_line at) ∷ []) × (result ≡ Ok tt)

-- the rounds of a station that has started
abbrev pub IsRunOf : StationArgs → Reports → List AtHost → Result Unit Failure → Type 0
IsRunOf words reports = IsRun words reports.printing
    reports.paths nothing_kept

-- A station whose socket and file are open begins to receive. It says where it is, which alarms are
-- raised, and where it serves HTTP, if it does. Then come its rounds.
abbrev pub IsWhole : StationArgs → Reports → StationSettings → SocketAddr
    → (web : Option SocketAddr)
    → List AtHost → Result Unit Failure → Type 0
IsWhole words reports s at web = Then (Quietly (SomeOr (IsNoSocket s.listen)))
    (λ (heard : Unit {0}).
    Then (IsStarted reports.printing s at) (λ (state : State).
    Then (IsWebSaid web) (λ (said : Unit {0}). IsRunOf words reports)))

-- a station that serves no HTTP, from its opening on
abbrev pub IsUnseen : StationArgs → Reports → StationSettings → List AtHost → Result Unit Failure
    → Type 0
IsUnseen words reports s = Then (IsUnseenOpened s) (λ at. IsWhole words reports s at None)

-- a station that serves HTTP at an address, from its opening on
abbrev pub IsSeen : Addr → StationArgs → Reports → StationSettings → List AtHost
    → Result Unit Failure
    → Type 0
IsSeen http_at words reports s =
    Then (IsShownOpened s http_at) (λ both. IsWhole words reports s both.0 (Some both.1))

-- a station that serves HTTP if there is an address for it
abbrev pub IsSeenIf : Option Addr → StationArgs → Reports → StationSettings → List AtHost
    → Result Unit Failure → Type 0
IsSeenIf None words reports s log result = IsUnseen words reports s log result
IsSeenIf (Some http_at) words reports s log result = IsSeen http_at words reports s log result

-- A station is run: the address for HTTP and the URL for notifications are read, then the settings,
-- the modules and the labels. Then it is opened.
abbrev pub IsRunning : StationArgs → List AtHost → Result Unit Failure → Type 0
IsRunning words = Then (Quietly (IsHttpAddress (option_copied words.http))) (λ http_at.
    Then (Quietly (IsCourier (option_copied words.notify))) (λ courier.
    Then (IsLabelled words.settings.now (option_map (λ l. l.now) words.labels) words.printed)
    (λ both.
    Then (Quietly (OrMemory (AreReports words both.0 both.1))) (λ reports.
    IsSeenIf http_at words reports both.0))))

-- only what limits a station is printed, or it is run
abbrev pub IsStationIf : (checks : Bool) → StationArgs → List AtHost → Result Unit Failure → Type 0
IsStationIf true words log result = IsCheck words.settings.now
    (option_map (λ l. l.now) words.labels)
    words.printed words.timing.interval log result
IsStationIf false words log result = IsRunning words log result

-- each line's level is shown, if that is asked for
abbrev pub AreLevels : (shown : Bool) → List AtHost → Result Unit Failure → Type 0
AreLevels false log result = (log ≡ []) × (result ≡ Ok tt)
AreLevels true log result = (log ≡ LevelsShown ∷ []) × (result ≡ Ok tt)

-- the command `station`
abbrev pub IsStation : StationArgs → List AtHost → Result Unit Failure → Type 0
IsStation words =
    Then (AreLevels words.log_levels) (λ (shown : Unit {0}). IsStationIf words.checks words)
