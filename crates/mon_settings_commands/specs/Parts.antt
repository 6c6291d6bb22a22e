-- The settings of several stations, a file each.
use Rattle.std.specs.Prelude.{◌≡◌, ◌⊎◌, ◌+◌, ℕ, zero, suc, true, false, List, [], ◌∷◌, ◌++◌, Some}
use Rattle.std.specs.Prelude.{Result, Ok, Err, codes, decimal, length, string_bytes}
use Rattle.std.specs.Global.{Vec}
use Rattle.mon_client.specs.Network.{Agents}
use Rattle.mon_app.specs.declared.fault.AppFault.TheVariants.{FileFault}
use Rattle.mon_console.specs.Files.{IsWrite}
use Rattle.mon_console.specs.Failure.{IsMemory, IsOfStream, IsSaid}
use Rattle.mon_console.specs.declared.failure.Failure.{Failure}
use Rattle.mon_faults.specs.declared.fault.Fault.TheVariants.{App}
use Rattle.mon_host.specs.AtHost.{AtHost, Found, Unfound}
use Rattle.mon_host.specs.Reason.{Why}
use Rattle.mon_host.specs.Then.{Quietly, Then}
use Rattle.mon_survey.specs.Plan.{planned_of}
use Rattle.mon_survey.specs.declared.choice.Choice.{Choice}
use Rattle.mon_survey.specs.declared.fault.SurveyFault.{SurveyFault}
use Rattle.mon_survey.specs.declared.fault.SurveyFault.TheVariants as faults
use Rattle.mon_survey.specs.declared.longest.Drafted.{Drafted}
use Rattle.mon_settings_commands.specs.Notes.{IsPrintNoted}
use Rattle.mon_settings_commands.specs.Fitting.{AreFitting}
use Rattle.mon_settings_commands.specs.Settings.{AreLabels, IsSettingsOf}
use Rattle.mon_settings_commands.specs.Source.{IsChoice, IsOfSurvey, OrMemory, Source}

-- the path of the file of a station that is this many after the first, in a folder
abbrev pub part_path : List ℕ → ℕ → List ℕ
part_path folder place = folder ++ codes "/station-" ++ decimal (place + 1) ++ codes ".toml"

-- a file that is there would be replaced, as the failure says
abbrev pub IsTaken : List ℕ → Failure → Type 0
IsTaken path = IsSaid (App FileFault) (path ++ codes ": a file is there, and is not replaced")

-- settings are written to a file, its name is printed, and it is said how long a round takes at
-- most
abbrev pub IsNamedWritten : List ℕ → Drafted → List AtHost → Result Unit Failure → Type 0
IsNamedWritten path drafted = Then (IsWrite path (string_bytes drafted.text))
    (λ done. OrMemory (IsPrintNoted (path ++ 10 ∷ []) path drafted.longest))

-- settings are written to a file, unless memory ran out for its path
abbrev pub IsPartWritten : List ℕ → Drafted → List AtHost → Result Unit Failure → Type 0
IsPartWritten path drafted = OrMemory (IsNamedWritten path drafted)

-- nothing is at a path; or something is, or it cannot be seen, as the failure says
abbrev pub IsAbsent : List ℕ → List AtHost → Result Unit Failure → Type 0
IsAbsent path log (Ok done) = log ≡ Found path false ∷ []
IsAbsent path log (Err failure) = ((log ≡ Found path true ∷ []) × IsTaken path failure)
    ⊎ ((why : Why) × (log ≡ Unfound path why ∷ []) × IsOfStream path why failure)

-- it is looked whether nothing is at the path of a file, unless memory ran out for the path
abbrev pub IsPartAbsent : List ℕ → List AtHost → Result Unit Failure → Type 0
IsPartAbsent path = OrMemory (IsAbsent path)

-- in order it is looked whether nothing is at the paths of this many files, from this place on
abbrev pub AreAbsent : List ℕ → (place count : ℕ) → List AtHost → Result Unit Failure → Type 0
AreAbsent folder place zero log result = (log ≡ []) × (result ≡ Ok tt)
AreAbsent folder place (suc n) log result =
    Then (IsPartAbsent (part_path folder place)) (λ done. AreAbsent folder (place + 1) n) log result

-- settings are written in order, each into the file of its place, from this place on
abbrev pub AreWritten : List ℕ → ℕ → List Drafted → List AtHost → Result Unit Failure → Type 0
AreWritten folder place [] log result = (log ≡ []) × (result ≡ Ok tt)
AreWritten folder place (d ∷ ds) log result =
    Then (IsPartWritten (part_path folder place) d) (λ done. AreWritten folder (place + 1) ds) log
    result

-- a group has no counters
abbrev pub HasNoCounter : Source → ℕ → Type 0
HasNoCounter s group = (choice : Choice) × IsChoice s (Some group) choice
    × (planned_of choice s.survey.answers ≡ Err faults.NoCounter)

-- a group has no plan, as a failure says
abbrev pub HasNoPlan : Source → Failure → Type 0
HasNoPlan s failure = (group : ℕ) × (choice : Choice) × (fault : SurveyFault)
    × IsChoice s (Some group) choice × IsOfSurvey fault failure
    × ((fault ≡ faults.OutOfMemory) ⊎ (planned_of choice s.survey.answers ≡ Err fault))

-- there are this many groups of counters: the next one has none, or there are as many as files may
-- be
abbrev pub HasGroups : Source → ℕ → Type 0
HasGroups s count = (count ≡ 65536) ⊎ HasNoCounter s count

-- these are the settings of groups, from this one on, whose polls the agent answered
abbrev pub AreGroupsFrom : Agents → Source → ℕ → List Drafted → Type 0
AreGroupsFrom agents s group [] = Unit {0}
AreGroupsFrom agents s group (d ∷ ds) = AreFitting agents s.asked (IsSettingsOf s (Some group))
    (Ok d) × AreGroupsFrom agents s (group + 1) ds

-- The settings of each group; or why there are none: a group has no plan, no settings, or a poll
-- that the agent does not answer.
abbrev pub AreParted : Agents → Source → Result (Vec Drafted) Failure → Type 0
AreParted agents s (Ok parts) = HasGroups s (length parts.items)
    × AreGroupsFrom agents s 0 parts.items
AreParted agents s (Err failure) = HasNoPlan s failure
    ⊎ ((group : ℕ) × (IsMemory failure ⊎ AreFitting agents s.asked (IsSettingsOf s (Some group))
    (Err failure)))

-- The settings of several stations. The polls of all are tried first. No file is replaced: it is
-- looked whether each is absent before anything is written, and labels are replaced before the
-- first file is made.
abbrev pub AreParts : Agents → Source → List ℕ → List AtHost → Result Unit Failure → Type 0
AreParts agents s folder = Then (Quietly (AreParted agents s))
    (λ parts. Then (AreAbsent folder 0 (length parts.items)) (λ absent.
    Then (AreLabels s []) (λ done. AreWritten folder 0 parts.items)))
