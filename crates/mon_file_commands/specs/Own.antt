-- The report of a station's file by what it holds itself.
use Rattle.std.specs.Prelude.{◌≡◌, ℕ, false, List, [], Option, Some, None, Result, Ok, Err, map}
use Rattle.std.specs.Global.{Global}
use Rattle.mon_board.specs.declared.board.Board.{Board}
use Rattle.mon_cli.specs.declared.meaning.Printed.{Printed}
use Rattle.mon_console.specs.Failure.{IsMemory, IsOf}
use Rattle.mon_console.specs.Files.{IsPrint}
use Rattle.mon_console.specs.Labelled.{AreLabels}
use Rattle.mon_console.specs.Naming.{AreBuiltIn, names_in}
use Rattle.mon_console.specs.Printing.{IsPrinting, aged, with_labels}
use Rattle.mon_console.specs.Shown.{shown_by}
use Rattle.mon_console.specs.declared.failure.Failure.{Failure}
use Rattle.mon_console.specs.declared.naming.KnownNames.{KnownNames}
use Rattle.mon_console.specs.declared.printing.Printing.{Printing}
use Rattle.mon_disk.specs.Keeper.{found_body, is_undamaged}
use Rattle.mon_disk.specs.declared.fault.KeeperFault.{KeeperFault}
use Rattle.mon_disk.specs.declared.fault.KeeperFault.TheVariants as keeper
use Rattle.mon_faults.specs.Fault.{station_fault}
use Rattle.mon_file_commands.specs.Age.{IsAge}
use Rattle.mon_file_commands.specs.Report.{entries_by}
use Rattle.mon_file_commands.specs.Saved.{IsSteadyRead}
use Rattle.mon_file_commands.specs.Steps.{OrMemory}
use Rattle.mon_formats.specs.Formats.{formatted}
use Rattle.mon_host.specs.AtHost.{AtHost}
use Rattle.mon_host.specs.Then.{Quietly, Then}
use Rattle.mon_labels.specs.Given.{Given, given, given_from}
use Rattle.mon_labels.specs.declared.labels.Labels.{Labels}
use Rattle.mon_own_watch.specs.Named.{IsUnnamed}
use Rattle.mon_own_watch.specs.Own.{IsOwnBoard}
use Rattle.mon_report.specs.Report.{Entry}
use Rattle.mon_saved.specs.declared.fault.ImageFault.TheVariants as image
use Rattle.mon_station.specs.declared.fault.StationFault.{StationFault}
use Rattle.mon_station.specs.declared.fault.StationFault.TheVariants as fault

-- what a body holds by itself: a board of the watch that it names, with all of its samples; nothing
-- if there is no body
abbrev pub IsOwn : Option (List ℕ) → Option Board → Type 0
IsOwn None own = own ≡ None
IsOwn (Some body) own = (board : Board) × (own ≡ Some board) × IsOwnBoard body board

-- why a body holds no board: it names no watch
abbrev pub IsFaultOfBody : Option (List ℕ) → StationFault → Type 0
IsFaultOfBody body fault.OutOfMemory = Unit {0}
IsFaultOfBody body (fault.Image image.OutOfMemory) = ⊥
IsFaultOfBody None (fault.Image f) = ⊥
IsFaultOfBody (Some octets) (fault.Image f) = IsUnnamed octets f
IsFaultOfBody body _ = ⊥

-- why a file holds no board: it is damaged, or the body that is found in it names no watch
abbrev pub IsFaultOfFile : List ℕ → StationFault → Type 0
IsFaultOfFile file (fault.Keeper keeper.Damaged) = is_undamaged file ≡ false
IsFaultOfFile file f = IsFaultOfBody (found_body file) f

-- a keeper's fault over a disk in memory, which only fails if memory runs out
abbrev pub in_memory : KeeperFault → StationFault
in_memory keeper.DiskFault = fault.OutOfMemory
in_memory keeper.OutOfMemory = fault.OutOfMemory
in_memory f = fault.Keeper f

-- what the octets of a file hold by themselves; or why they don't
abbrev pub IsOwnIn : List ℕ → Result (Option Board) Failure → Type 0
IsOwnIn octets (Ok own) = IsOwn (found_body octets) own
IsOwnIn octets (Err failure) =
    (f : StationFault) × IsFaultOfFile octets f × IsOf (station_fault f) failure

-- what the file at a path holds by itself, which is read 16 times at most
abbrev pub IsOwnSaved : (path : List ℕ) → List AtHost → Result (Option Board) Failure → Type 0
IsOwnSaved path = Then (IsSteadyRead path 15) (λ octets. Quietly (IsOwnIn octets.items))

-- the labels of the instances in a file: only those of interfaces, since no target is known
abbrev pub AreOwnLabels : Option Board → Labels → List Given → Type 0
AreOwnLabels None labels all = all ≡ []
AreOwnLabels (Some board) labels all =
    all ≡ given_from {A = Global} {B = Global} labels.interfaces.items [] [] [] 0
    board.watch.instances

-- reports to which these labels were added, and no label of a station; or memory ran out
abbrev pub IsOwnLabelled : Option Board → Labels → Printing → Result Printing Failure → Type 0
IsOwnLabelled own labels before (Ok after) = (after ≡ with_labels after.labels None before)
    × AreOwnLabels own labels (map given after.labels.items)
IsOwnLabelled own labels before (Err failure) = IsMemory failure

-- the instances in a file, without alarms; none if no save was finished
abbrev pub own_entries : Option Board → List Entry
own_entries None = []
own_entries (Some board) = entries_by board []

-- the report of what a file holds
abbrev pub own_report : Printing → Option Board → List ℕ
own_report printing own = formatted printing.format (shown_by printing.names) (own_entries own) None
    printing.labels.items printing.presentation

-- it is said how old the file at a path is, and the report of what it holds is printed with this
-- age
abbrev pub IsAgedReport : (path : List ℕ) → Option Board → Printing → List AtHost
    → Result Unit Failure → Type 0
IsAgedReport path own printing = Then (IsAge path) (λ (age : Option ℕ).
    Then (Quietly (OrMemory (λ (text : List ℕ). text ≡ own_report (aged age printing) own)))
    IsPrint)

-- the file at a path is read, labels of interfaces are added, and the report is printed
abbrev pub IsOwnReport : (path : List ℕ) → Printing → Labels → List AtHost → Result Unit Failure
    → Type 0
IsOwnReport path printing labels = Then (IsOwnSaved path) (λ own.
    Then (Quietly (IsOwnLabelled own labels printing)) (λ by. IsAgedReport path own by))

-- the built-in names; or memory ran out
abbrev pub IsBuiltIn : Result KnownNames Failure → Type 0
IsBuiltIn result = AreBuiltIn (names_in result)

-- how reports are printed, by the built-in names and those of the modules of the arguments, which
-- are read; and then the labels of interfaces, if a file of them is given
abbrev pub IsWayTo : (labels : Option (List ℕ)) → Printed → List AtHost
    → Result (Printing × Labels) Failure → Type 0
IsWayTo labels printed = Then (Quietly IsBuiltIn) (λ known.
    Then (IsPrinting printed known.names []) (λ printing.
    Then (AreLabels labels) (λ all. Quietly (λ result. result ≡ Ok (printing, all)))))

-- The modules of the arguments and the labels are read, then the file at this path, whose age is
-- said. Then the report of its windows is printed, without alarms, and nothing is replaced.
abbrev pub IsFileReport : (path : List ℕ) (labels : Option (List ℕ)) → Printed → List AtHost
    → Result Unit Failure → Type 0
IsFileReport path labels printed =
    Then (IsWayTo labels printed) (λ both. IsOwnReport path both.0 both.1)
