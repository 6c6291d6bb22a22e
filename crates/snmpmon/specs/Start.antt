-- A whole run of the program: from its arguments to its exit status.
use Rattle.std.specs.Prelude.{◌≡◌, ◌⊎◌, ℕ, List, [], ◌∷◌, ◌++◌, Bool, true, false, if◌then◌else◌}
use Rattle.std.specs.Prelude.{map, Result, Ok, Err, codes, option_map}
use Rattle.std.specs.declared.io.ErrorKind.{ErrorKind}
use Rattle.std.specs.declared.io.ErrorKind.TheVariants as kinds
use Rattle.clap.specs.Words.{Text, found_of, rows_of, subcommand_rows_of}
use Rattle.clap.specs.Values.{kind_of}
use Rattle.clap.specs.declared.parser.matches.ArgMatches.{ArgMatches}
use Rattle.clap.specs.declared.error.Error.{Error}
use Rattle.clap.specs.declared.error.kind.ErrorKind.{ErrorKind as UsageKind}
use Rattle.clap.specs.declared.error.kind.ErrorKind.TheVariants as usage
use Rattle.mon_client.specs.Network.{Agents}
use Rattle.mon_serving.specs.Network.{Ports}
use Rattle.mon_cli.specs.Invocation.{AsksFor, LacksColumns, LacksInterval, LacksMachines}
use Rattle.mon_cli.specs.Invocation.{LacksNumber}
use Rattle.mon_cli.specs.Invocation.{LacksRounds, LacksSource, LacksSplit, is_on}
use Rattle.mon_cli.specs.Program.{IsParseOf, Reads}
use Rattle.mon_cli.specs.declared.meaning.Invocation.{Invocation}
use Rattle.mon_cli.specs.declared.meaning.Invocation.TheVariants as asked
use Rattle.mon_commands.specs.Agent.{IsAnswering}
use Rattle.mon_commands.specs.Client.{IsAskingMany, IsGetting, IsGettingNext, IsSetting}
use Rattle.mon_commands.specs.Mib.{IsMib}
use Rattle.mon_commands.specs.Rehearsing.{IsRehearsing, IsSelfTest}
use Rattle.mon_commands.specs.Replaying.{IsRecording}
use Rattle.mon_commands.specs.Serving.{IsServingAgent}
use Rattle.mon_commands.specs.Walking.{IsWalking}
use Rattle.mon_console.specs.Failure.{IsMemory, IsTold}
use Rattle.mon_console.specs.Files.{IsPrint}
use Rattle.mon_console.specs.declared.failure.Failure.{Failure}
use Rattle.mon_settings_commands.specs.Command.{AreSettings}
use Rattle.mon_health_commands.specs.Health.{IsHealthz, Stations}
use Rattle.mon_carry_commands.specs.Carry.{IsCarryCommand}
use Rattle.mon_carry_commands.specs.Saving.{Saved}
use Rattle.mon_file_commands.specs.Command.{IsReportCommand}
use Rattle.mon_station_commands.specs.Station.{IsStation}
use Rattle.mon_faults.specs.Fault.{lasts}
use Rattle.mon_faults.specs.declared.fault.Fault.{Fault}
use Rattle.mon_faults.specs.declared.fault.Fault.TheVariants.{SettingsChanged}
use Rattle.mon_host.specs.AtHost.{AtHost, AtTerminal, Listed, Noted, Unlisted}
use Rattle.mon_host.specs.declared.level.Level.TheVariants as level
use Rattle.mon_host.specs.Reason.{Why}
use Rattle.mon_host.specs.Then.{Quietly, Then}

-- what is said of a failure: nothing if the reader of what was printed went away
abbrev pub IsToldIf : Bool → Failure → List AtHost → Type 0
IsToldIf true failure log = log ≡ []
IsToldIf false failure log = IsTold level.Error failure log

-- The exit status of a fault: 1, and of a station 4 if it ends since its settings changed, and 3 if
-- the fault lasts, since another start would only meet it again.
abbrev pub status_of : (station : Bool) → Fault → ℕ
status_of true SettingsChanged = 4
status_of true fault = if lasts fault then 3 else 1
status_of false fault = 1

-- the end of a command: status 0 and no word; or its failure is reported, and the status is
-- its fault's
abbrev pub IsEnd : (station : Bool) → Result Unit Failure → List AtHost → ℕ → Type 0
IsEnd station (Ok done) log status = (log ≡ []) × (status ≡ 0)
IsEnd station (Err failure) log status =
    IsToldIf failure.is_cut failure log × (status ≡ status_of station failure.fault)

-- a command is run, and then the program ends
pub record IsRun (station : Bool) (Does : List AtHost → Result Unit Failure → Type 0)
    (log : List AtHost) (status : ℕ) : Type 0 where
  pub given : Result Unit Failure
  pub begin : List AtHost
  pub done : Does begin given
  pub rest : List AtHost
  pub end : IsEnd station given rest status
  pub log_is : log ≡ begin ++ rest

-- the arguments are refused: one line is said, and status 2
abbrev pub IsRefused : List ℕ → List AtHost → ℕ → Type 0
IsRefused line log status = (log ≡ Noted level.Error line ∷ []) × (status ≡ 2)

-- memory ran out before a command was run
abbrev pub EndsForMemory : List AtHost → ℕ → Type 0
EndsForMemory log status = (failure : Failure) × IsMemory failure
    × IsEnd false (Err failure) log status

-- the arguments could not be listed: memory ran out, or they are no text
abbrev pub IsUnlisted : ErrorKind → List AtHost → ℕ → Type 0
IsUnlisted kinds.OutOfMemory log status = EndsForMemory log status
IsUnlisted _ log status =
    IsRefused (codes "snmpmon: the command line is not UTF-8; see snmpmon --help\n") log status

-- some text, or no memory for it
abbrev pub IsSomeText : Result (List ℕ) Failure → Type 0
IsSomeText (Ok text) = Unit {0}
IsSomeText (Err failure) = IsMemory failure

-- a text is printed
abbrev pub IsShown : List AtHost → Result Unit Failure → Type 0
IsShown = Then (Quietly IsSomeText) (λ text. IsPrint text)

-- The arguments name no command: help is printed; or memory ran out; or some line is said of them.
abbrev pub IsUsage : UsageKind → List AtHost → ℕ → Type 0
IsUsage usage.OutOfMemory log status = EndsForMemory log status
IsUsage usage.DisplayHelp log status = IsRun false IsShown log status
IsUsage usage.DisplayVersion log status = IsRun false IsShown log status
IsUsage _ log status = (line : List ℕ) × IsRefused line log status

-- what a command does
abbrev pub Does : Agents → Ports → Saved → Stations → Invocation → List AtHost → Result Unit Failure
    → Type 0
Does agents ports saved stations asked.Version log result = IsPrint (codes "snmpmon 0.1.0\n") log
    result
Does agents ports saved stations (asked.Replay words) log result = IsRecording words log result
Does agents ports saved stations (asked.Get request) log result = IsGetting agents request log
    result
Does agents ports saved stations (asked.Next request) log result = IsGettingNext agents request log
    result
Does agents ports saved stations (asked.Bulk words) log result = IsAskingMany agents words log
    result
Does agents ports saved stations (asked.Walk words) log result = IsWalking agents words log result
Does agents ports saved stations (asked.Set words) log result = IsSetting agents words log result
Does agents ports saved stations (asked.Settings words) log result = AreSettings agents words log
    result
Does agents ports saved stations (asked.Agent words) log result = IsServingAgent ports words log
    result
Does agents ports saved stations (asked.Answer words) log result = IsAnswering words log result
Does agents ports saved stations (asked.Mib words) log result =
    IsMib words.file.now (map (λ f. f.now) words.modules.now) log result
Does agents ports saved stations (asked.Station words) log result = IsStation words log result
Does agents ports saved stations (asked.Report words) log result = IsReportCommand words log result
Does agents ports saved stations (asked.Carry words) log result = IsCarryCommand saved words log
    result
Does agents ports saved stations (asked.Healthz words) log result = IsHealthz stations
    words.address.now log result
Does agents ports saved stations asked.SelfTest log result = IsSelfTest log result
Does agents ports saved stations (asked.Rehearse words) log result = IsRehearsing words log result

-- whether a command reads lines from standard input
abbrev pub reads_input : Invocation → Bool
reads_input (asked.Replay words) = true
reads_input (asked.Answer words) = true
reads_input (asked.Rehearse words) = true
reads_input _ = false

-- whether a command is a running station
abbrev pub is_station : Invocation → Bool
is_station (asked.Station words) = true
is_station _ = false

-- what is said at a terminal
abbrev pub at_terminal : List ℕ
at_terminal =
    codes "snmpmon: reads lines from this terminal until Ctrl-D; see snmpmon --help\n"

-- it is looked whether standard input is a terminal, and there one line says how lines end
abbrev pub Hints : List AtHost → Type 0
Hints log = (log ≡ AtTerminal false ∷ [])
    ⊎ (log ≡ AtTerminal true ∷ Noted level.Info at_terminal ∷ [])

-- what comes before a command
abbrev pub IsBefore : Bool → List AtHost → Type 0
IsBefore true log = Hints log
IsBefore false log = log ≡ []

-- the command is run; first comes the line at a terminal, if it reads from one
pub record IsRunFor (agents : Agents) (ports : Ports) (saved : Saved) (stations : Stations)
    (asked : Invocation) (log : List AtHost) (status : ℕ) : Type 0 where
  pub begin : List AtHost
  pub before : IsBefore (reads_input asked) begin
  pub rest : List AtHost
  pub run : IsRun (is_station asked) (Does agents ports saved stations asked) rest status
  pub log_is : log ≡ begin ++ rest

-- what is said of a station without rounds
abbrev pub no_rounds : List ℕ
no_rounds =
    codes "snmpmon: station wants --rounds ROUNDS or --check; see snmpmon station --help\n"

-- what is said of a phase without an interval
abbrev pub no_interval : List ℕ
no_interval =
    codes "snmpmon: station wants --interval SECONDS with --phase; see snmpmon station --help\n"

-- what is said of a report of saved windows that is given no settings and no file, or both
abbrev pub no_source : List ℕ
no_source =
    codes "snmpmon: report wants either SETTINGS or --file FILE; see snmpmon report --help\n"

-- what is said of series that must have a station's number, which a file without settings has not
abbrev pub no_number : List ℕ
no_number =
    codes "snmpmon: report wants SETTINGS with --station-label; see snmpmon report --help\n"

-- what is said of machines that settings are placed on, and no folder for them
abbrev pub no_split : List ℕ
no_split =
    codes "snmpmon: settings wants --split FOLDER with --machines; see snmpmon settings --help\n"

-- what is said of groups of stations, and no machines that they would be on
abbrev pub no_machines : List ℕ
no_machines =
    codes "snmpmon: --stations and --first-group want --machines; see snmpmon settings --help\n"

-- what is said of sorted rows of a report that is no table
abbrev pub no_columns : List ℕ
no_columns = codes "snmpmon: --sort wants --columns; see snmpmon report --help\n"

-- The command is run, unless a station, a report or settings lack something, which one line says.
pub record IsStartOf (agents : Agents) (ports : Ports) (saved : Saved) (stations : Stations)
    (asked : Invocation) (log : List AtHost) (status : ℕ) : Type 0 where
  pub rounds : LacksRounds asked → IsRefused no_rounds log status
  pub interval : ¬ (LacksRounds asked) → LacksInterval asked → IsRefused no_interval log status
  pub source : ¬ (LacksRounds asked) → ¬ (LacksInterval asked) → LacksSource asked
      → IsRefused no_source log status
  pub number : ¬ (LacksRounds asked) → ¬ (LacksInterval asked) → ¬ (LacksSource asked)
      → LacksNumber asked → IsRefused no_number log status
  pub split : ¬ (LacksRounds asked) → ¬ (LacksInterval asked) → ¬ (LacksSource asked)
      → ¬ (LacksNumber asked) → LacksSplit asked → IsRefused no_split log status
  pub machines : ¬ (LacksRounds asked) → ¬ (LacksInterval asked) → ¬ (LacksSource asked)
      → ¬ (LacksNumber asked) → ¬ (LacksSplit asked) → LacksMachines asked
      → IsRefused no_machines log status
  pub columns : ¬ (LacksRounds asked) → ¬ (LacksInterval asked) → ¬ (LacksSource asked)
      → ¬ (LacksNumber asked) → ¬ (LacksSplit asked) → ¬ (LacksMachines asked)
      → LacksColumns asked → IsRefused no_columns log status
  pub run : ¬ (LacksRounds asked) → ¬ (LacksInterval asked) → ¬ (LacksSource asked)
      → ¬ (LacksNumber asked) → ¬ (LacksSplit asked) → ¬ (LacksMachines asked)
      → ¬ (LacksColumns asked) → IsRunFor agents ports saved stations asked log status

-- what arguments ask for, by the rows that the command line makes of them
pub record IsAskedBy (words : List Text) (a : Invocation) : Type 0 where
  pub matches : ArgMatches
  pub parse : IsParseOf words matches
  pub asks : AsksFor (is_on (codes "version") (rows_of (found_of matches)))
      (rows_of (found_of matches)) (subcommand_rows_of matches) a

-- what the program does with its arguments: it starts the command, or says why there is none
abbrev pub IsStartWith : Agents → Ports → Saved → Stations → List Text → List AtHost → ℕ → Type 0
IsStartWith agents ports saved stations words log status = ((a : Invocation) × IsAskedBy words a
    × IsStartOf agents ports saved stations a log status)
    ⊎ ((e : Error) × Reads words (Err e) × IsUsage (kind_of e) log status)

-- the arguments were listed, and the program does what they say
pub record IsListedStart (agents : Agents) (ports : Ports) (saved : Saved) (stations : Stations)
    (log : List AtHost) (status : ℕ) : Type 0 where
  pub words : List Text
  pub rest : List AtHost
  pub start : IsStartWith agents ports saved stations words rest status
  pub log_is : log ≡ Listed words ∷ rest

-- the arguments could not be listed, for this reason
pub record IsUnlistedStart (log : List AtHost) (status : ℕ) : Type 0 where
  pub why : Why
  pub rest : List AtHost
  pub end : IsUnlisted why.kind rest status
  pub log_is : log ≡ Unlisted why ∷ rest

-- A whole run: what is done from the first call to the last, and the exit status. Agents are
-- reached and ports opened by a network.
abbrev pub IsStart : Agents → Ports → Saved → Stations → List AtHost → ℕ → Type 0
IsStart agents ports saved stations log status = IsListedStart agents ports saved stations log
    status ⊎ IsUnlistedStart log status
