-- The settings of the stations of a network, a file each, with the lists of their addresses.
use Rattle.std.specs.Prelude.{◌≡◌, ◌≤◌, ◌<◌, ◌⊎◌, ◌+◌, ◌*◌, ◌==◌, ◌++◌, ◌∷◌, ℕ, List, [], Option}
use Rattle.std.specs.Prelude.{Some}
use Rattle.std.specs.Prelude.{None, Result, Ok, Err, codes, decimal, length, map, string_bytes}
use Rattle.std.specs.Prelude.{if◌then◌else◌}
use Rattle.std.specs.Global.{Vec}
use Rattle.mon_client.specs.Network.{Agents}
use Rattle.mon_app.specs.declared.fault.AppFault.TheVariants.{BadText}
use Rattle.mon_cli.specs.declared.meaning.SettingsArgs.{SettingsArgs}
use Rattle.mon_console.specs.Failure.{IsMemory, IsSaid}
use Rattle.mon_console.specs.Files.{IsPrint, IsText, IsWrite}
use Rattle.mon_console.specs.declared.failure.Failure.{Failure}
use Rattle.mon_faults.specs.declared.fault.Fault.TheVariants.{App}
use Rattle.mon_host.specs.AtHost.{AtHost}
use Rattle.mon_host.specs.Then.{Quietly, Then}
use Rattle.mon_placing.specs.Machines.{listed, machines_in}
use Rattle.mon_placing.specs.Network.{ArePlaced, seat_at, seat_path, targets_text, units_text}
use Rattle.mon_placing.specs.declared.fault.MachinesFault.{MachinesFault}
use Rattle.mon_placing.specs.declared.fault.MachinesFault.TheVariants.{
  Malformed,
  NoMachine,
  OutOfMemory,
  RepeatedAddress,
  RepeatedName,
  TooFew,
  TooMany,
}
use Rattle.mon_placing.specs.declared.machines.Machine.{Machine}
use Rattle.mon_placing.specs.declared.network.Network.{Network}
use Rattle.mon_survey.specs.declared.longest.Drafted.{Drafted}
use Rattle.mon_survey.specs.declared.longest.LongestRound.{LongestRound}
use Rattle.mon_settings_commands.specs.Fitting.{AreFitting}
use Rattle.mon_settings_commands.specs.Notes.{AreSpeedsNoted, IsPrintNoted, Surely}
use Rattle.mon_settings_commands.specs.Parts.{HasGroups, HasNoPlan, IsAbsent}
use Rattle.mon_settings_commands.specs.Seats.{IsSeatSettings}
use Rattle.mon_settings_commands.specs.Settings.{AreLabels}
use Rattle.mon_settings_commands.specs.Source.{OrMemory, Source}
use Rattle.mon_settings_commands.specs.declared.network.Output.{Output}

-- ---- machines

-- the text for why a file lists no machines, after its path; lines are counted from 1
abbrev pub machines_words : MachinesFault → List ℕ
machines_words OutOfMemory = codes ": out of memory"
machines_words (Malformed n) = codes ": line " ++ (decimal n
    ++ codes ": NAME ADDRESS is wanted, as east-1 192.0.2.11")
machines_words (RepeatedName n) = codes ": line " ++ (decimal n
    ++ codes ": a machine above has this name")
machines_words (RepeatedAddress n) = codes ": line " ++ (decimal n
    ++ codes ": a machine above has this address")
machines_words (TooMany n) = codes ": line " ++ (decimal n ++ codes ": more than 1,024 machines")
machines_words NoMachine = codes ": no machine is listed"
machines_words (TooFew n) = codes ": machines: " ++ (decimal n
    ++ codes ", fewer than the stations of a group")

-- why a file lists no machines, as the failure says: memory ran out, or a line that names the file
-- and says why
abbrev pub IsOfMachines : List ℕ → MachinesFault → Failure → Type 0
IsOfMachines path OutOfMemory failure = IsMemory failure
IsOfMachines path fault failure = IsSaid (App BadText) (path ++ machines_words fault) failure

-- The machines that the text of a file lists, enough for groups of this many stations; or why
-- there are none: memory ran out, or the text is at fault.
abbrev pub AreMachinesIn : (path : List ℕ) (stations : ℕ) (text : List ℕ)
    → Result (Vec Machine) Failure → Type 0
AreMachinesIn path stations text (Ok machines) =
    machines_in text stations ≡ Ok (map listed machines.items)
AreMachinesIn path stations text (Err failure) = (fault : MachinesFault)
    × ((fault ≡ OutOfMemory) ⊎ (machines_in text stations ≡ Err fault))
    × IsOfMachines path fault failure

-- a file is read, and the machines are those that it lists
abbrev pub AreMachines : List ℕ → ℕ → List AtHost → Result (Vec Machine) Failure → Type 0
AreMachines path stations = Then (IsText path)
    (λ text. Quietly (AreMachinesIn path stations (string_bytes text)))

-- ---- the network

-- groups have 1 to 3 stations, and the first one has a number
pub record AreNumbers (words : SettingsArgs) : Type 0 where
  pub some : 1 ≤ words.stations
  pub few : words.stations ≤ 3
  pub first : 1 ≤ words.first_group

-- The network that the arguments give over these machines. The stations of group 1 listen at port
-- 16101.
pub record IsNetworkOf (words : SettingsArgs) (machines : List Machine) (n : Network)
    : Type 0 where
  pub machines_are : n.machines.now ≡ machines
  pub stations : n.stations ≡ words.stations
  pub first : n.first ≡ words.first_group
  pub port : n.port ≡ 16101

-- a network has 1 to 1,024 machines, groups of 1 to 3 stations, and a first group
pub record IsNetwork (n : Network) : Type 0 where
  pub machines : (1 ≤ length n.machines.now) × (length n.machines.now ≤ 1024)
  pub some : 1 ≤ n.stations
  pub few : n.stations ≤ 3
  pub first : 1 ≤ n.first
  pub port : n.port ≡ 16101

-- the line for groups that would listen above port 65535
abbrev pub unported_line : (first groups : ℕ) → List ℕ
unported_line first groups = codes "--first-group " ++ (decimal first
    ++ (codes ": the ports of " ++ (decimal groups ++ codes " groups from it on exceed 65535")))

-- groups would listen above port 65535, as the failure says
abbrev pub IsUnported : Network → ℕ → Failure → Type 0
IsUnported n groups failure = (65537 < n.port + n.first + groups)
    × IsSaid (App BadText) (unported_line n.first groups) failure

-- ---- files

-- The path of a list of a network in a folder: if the first group of its stations is not the
-- network's first, the number of that group follows the name.
unfoldable pub list_path : (folder name ending : List ℕ) → ℕ → List ℕ
list_path folder name ending first = if first == 1
    then folder ++ (codes "/" ++ (name ++ ending))
    else folder ++ (codes "/" ++ (name ++ (codes "-" ++ (decimal first ++ ending))))

-- the path of the targets that Prometheus scrapes
abbrev pub targets_path : List ℕ → Network → List ℕ
targets_path folder n = list_path folder (codes "targets") (codes ".json") n.first

-- the path of the list of the stations
abbrev pub units_path : List ℕ → Network → List ℕ
units_path folder n = list_path folder (codes "units") (codes ".txt") n.first

-- a file has this path and this text, and no round is said of it
pub record IsList (path text : List ℕ) (x : Output) : Type 0 where
  pub path_is : string_bytes x.path ≡ path
  pub text_is : string_bytes x.text ≡ text
  pub none : x.longest ≡ None

-- a file has the settings of the station of this place, whose polls the agent answered
pub record IsSeatFile (agents : Agents) (s : Source) (folder : List ℕ) (n : Network) (place : ℕ)
    (x : Output) : Type 0 where
  pub drafted : Drafted
  pub fits : AreFitting agents s.asked (IsSeatSettings s (seat_at n place)) (Ok drafted)
  pub path_is : string_bytes x.path ≡ seat_path folder (seat_at n place)
  pub text_is : x.text ≡ drafted.text
  pub round : x.longest ≡ Some drafted.longest

-- files have the settings of the stations from this place on, group by group
abbrev pub AreSeatFiles : Agents → Source → List ℕ → Network → ℕ → List Output → Type 0
AreSeatFiles agents s folder n place [] = Unit {0}
AreSeatFiles agents s folder n place (x ∷ xs) = IsSeatFile agents s folder n place x
    × AreSeatFiles agents s folder n (place + 1) xs

-- The files of a network: the settings of each station of each group, then the targets that
-- Prometheus scrapes, and the list of the stations.
pub record AreFiles (agents : Agents) (s : Source) (folder : List ℕ) (n : Network)
    (xs : List Output) : Type 0 where
  pub groups : ℕ
  pub has : HasGroups s groups
  pub placed : ArePlaced n groups
  pub seats : List Output
  pub each : AreSeatFiles agents s folder n 0 seats
  pub all : length seats ≡ groups * n.stations
  pub targets : Output
  pub targets_are : IsList (targets_path folder n) (targets_text n groups) targets
  pub units : Output
  pub units_are : IsList (units_path folder n) (units_text n groups) units
  pub files_are : xs ≡ seats ++ targets ∷ units ∷ []

-- The files of a network; or why there are none: a group has no plan, no port, no settings, or a
-- poll that the agent does not answer.
abbrev pub AreFilesOf : Agents → Source → List ℕ → Network → Result (Vec Output) Failure → Type 0
AreFilesOf agents s folder n (Ok xs) = AreFiles agents s folder n xs.items
AreFilesOf agents s folder n (Err failure) = HasNoPlan s failure
    ⊎ (IsMemory failure
    ⊎ (((groups : ℕ) × HasGroups s groups × IsUnported n groups failure)
    ⊎ ((place : ℕ) × AreFitting agents s.asked (IsSeatSettings s (seat_at n place))
    (Err failure))))

-- a step for each element, in order, up to one that fails
abbrev pub Each : {X : Type 0} → (X → List AtHost → Result Unit Failure → Type 0) → List X
    → List AtHost → Result Unit Failure → Type 0
Each Step [] log result = (log ≡ []) × (result ≡ Ok tt)
Each Step (x ∷ xs) log result = Then (Step x) (λ done. Each Step xs) log result

-- nothing is at the path of a file
abbrev pub IsFree : Output → List AtHost → Result Unit Failure → Type 0
IsFree x = IsAbsent (string_bytes x.path)

-- a path is printed in a line, and it is said how long a round takes at most if it has settings
abbrev pub IsPathPrinted : List ℕ → Option LongestRound → List AtHost → Result Unit Failure
    → Type 0
IsPathPrinted path None = IsPrint (path ++ 10 ∷ [])
IsPathPrinted path (Some longest) = IsPrintNoted (path ++ 10 ∷ []) path longest

-- a file is written, and its path is printed, unless memory ran out for the line
abbrev pub IsFileWritten : Output → List AtHost → Result Unit Failure → Type 0
IsFileWritten x = Then (IsWrite (string_bytes x.path) (string_bytes x.text))
    (λ done. OrMemory (IsPathPrinted (string_bytes x.path) x.longest))

-- The settings of a network. The polls of all stations are tried first. No file is replaced: it is
-- looked whether each is absent before anything is written, and labels are replaced before the
-- first file is made.
abbrev pub IsNetworkPut : Agents → Source → List ℕ → Network → List AtHost → Result Unit Failure
    → Type 0
IsNetworkPut agents s folder n = Then (Quietly (AreFilesOf agents s folder n))
    (λ xs. Then (Each IsFree xs.items) (λ free.
    Then (AreLabels s []) (λ done. Each IsFileWritten xs.items)))

-- after that it is said for how many interfaces there is no threshold
abbrev pub IsNoted : Agents → Source → List ℕ → Network → List AtHost → Result Unit Failure
    → Type 0
IsNoted agents s folder n = Then (IsNetworkPut agents s folder n)
    (λ done. Surely (AreSpeedsNoted s))

-- the settings of the network that the arguments give over these machines
abbrev pub IsNetworkNoted : Agents → Source → List ℕ → List Machine → List AtHost
    → Result Unit Failure → Type 0
IsNetworkNoted agents s folder machines log result = (n : Network)
    × IsNetworkOf s.words machines n × IsNoted agents s folder n log result
