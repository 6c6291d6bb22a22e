-- The command `settings`.
use Rattle.std.specs.Prelude.{ℕ, List, [], Option, Some, None, Result, map, option_copied}
use Rattle.std.specs.Prelude.{string_bytes}
use Rattle.mon_client.specs.Network.{Agents}
use Rattle.mon_cli.specs.declared.meaning.SettingsArgs.{SettingsArgs}
use Rattle.mon_console.specs.Naming.{AreNames}
use Rattle.mon_console.specs.declared.failure.Failure.{Failure}
use Rattle.mon_host.specs.AtHost.{AtHost}
use Rattle.mon_host.specs.Then.{Quietly, Then}
use Rattle.mon_smi.specs.declared.definition.Definition.{Definition}
use Rattle.mon_settings_commands.specs.Appended.{AreOldLabels, IsAlone, IsAppendedOf, IsExisting}
use Rattle.mon_settings_commands.specs.Appended.{IsLonger}
use Rattle.mon_settings_commands.specs.AgentOptions.{IsAsked, IsAsking}
use Rattle.mon_settings_commands.specs.Network.{AreMachines, IsNetworkNoted}
use Rattle.mon_settings_commands.specs.Notes.{AreSpeedsNoted, Surely}
use Rattle.mon_settings_commands.specs.Parts.{AreParts}
use Rattle.mon_settings_commands.specs.Fitting.{AreFitting}
use Rattle.mon_settings_commands.specs.Settings.{AreLabels, IsDraftPrinted, IsSettingsOf}
use Rattle.mon_settings_commands.specs.Source.{Source}
use Rattle.mon_settings_commands.specs.Updated.{AreKnown, AreLines, IsApart, IsChanged, IsUpdatedOf}
use Rattle.mon_settings_commands.specs.declared.asking.Survey.{Survey}
use Rattle.mon_settings_commands.specs.declared.existing.Existing.{Existing}
use Rattle.mon_settings_commands.specs.declared.settings.AgentOptions.{AgentOptions}

-- what settings are written from
abbrev pub source : SettingsArgs → AgentOptions → List Definition → Survey → Source
source words asked names survey = record {
  words = words;
  asked = asked;
  names = names;
  survey =
      survey;
}

-- The settings of one station: their polls are tried, labels are replaced, and they are printed.
abbrev pub IsWhole : Agents → Source → List AtHost → Result Unit Failure → Type 0
IsWhole agents s = Then (Quietly (AreFitting agents s.asked (IsSettingsOf s None)))
    (λ drafted. Then (AreLabels s []) (λ done. IsDraftPrinted drafted))

-- the settings of several stations go into a folder if the arguments name one, else those of one
-- are printed
abbrev pub AreTextsFor : Agents → Source → Option (List ℕ) → List AtHost → Result Unit Failure
    → Type 0
AreTextsFor agents s None = IsWhole agents s
AreTextsFor agents s (Some folder) = AreParts agents s folder

-- settings go where the arguments say: into their folder, or to standard output
abbrev pub ArePutTexts : Agents → Source → List AtHost → Result Unit Failure → Type 0
ArePutTexts agents s = AreTextsFor agents s (option_copied s.words.split)

-- after that it is said for how many interfaces there is no threshold
abbrev pub AreNewTexts : Agents → Source → List AtHost → Result Unit Failure → Type 0
AreNewTexts agents s = Then (ArePutTexts agents s) (λ done. Surely (AreSpeedsNoted s))

-- settings that are there with more targets, whose polls are tried before labels are replaced
abbrev pub IsLongerBy : Agents → Source → Existing → List ℕ → List AtHost → Result Unit Failure
    → Type 0
IsLongerBy agents s existing old = Then (Quietly (AreFitting agents s.asked
    (IsAppendedOf s existing))) (λ drafted. IsLonger s drafted old)

-- New settings: modules are read, the agent is asked, and texts are written.
abbrev pub AreNewSettings : Agents → SettingsArgs → AgentOptions → List AtHost → Result Unit Failure
    → Type 0
AreNewSettings agents words asked = Then (AreNames (map (λ m. m.now) words.modules.now)) (λ names.
    Then (IsAsking agents asked) (λ survey. AreNewTexts agents (source words asked names survey)))

-- Settings that are there with more targets: they and the old labels are read before the agent is
-- asked, and polls of the added targets are tried before anything is replaced or printed.
abbrev pub AreLongerSettings : Agents → SettingsArgs → AgentOptions → List ℕ → List AtHost
    → Result Unit Failure → Type 0
AreLongerSettings agents words asked path = Then (Quietly (IsAlone words))
    (λ done. Then (IsExisting path) (λ existing.
    Then (AreOldLabels (option_copied words.labels)) (λ old. Then (IsAsking agents asked) (λ survey.
    IsLongerBy agents (source words asked existing.names survey) existing (string_bytes old)))))

-- the folder of a network's settings and the file that lists its machines, if both are given
abbrev pub split_paths_in : Option (List ℕ) → Option (List ℕ) → Option (List ℕ × List ℕ)
split_paths_in None machines = None
split_paths_in (Some folder) None = None
split_paths_in (Some folder) (Some machines) = Some (folder, machines)

-- The settings of a network: modules and machines are read, the agent is asked, and files are
-- written.
abbrev pub AreNetworkSettings : Agents → SettingsArgs → AgentOptions → List ℕ × List ℕ → List AtHost
    → Result Unit Failure → Type 0
AreNetworkSettings agents words asked paths = Then (AreNames (map (λ m. m.now) words.modules.now))
    (λ names. Then (AreMachines paths.1 words.stations) (λ machines.
    Then (IsAsking agents asked) (λ survey.
    IsNetworkNoted agents (source words asked names survey) paths.0 machines.items)))

-- new settings: those of a network if a folder and machines are given
abbrev pub AreFreshSettings : Agents → SettingsArgs → AgentOptions → Option (List ℕ × List ℕ)
    → List AtHost → Result Unit Failure → Type 0
AreFreshSettings agents words asked None = AreNewSettings agents words asked
AreFreshSettings agents words asked (Some paths) = AreNetworkSettings agents words asked paths

-- new settings, or those in a file with more targets
abbrev pub AreSettingsFor : Agents → SettingsArgs → AgentOptions → Option (List ℕ) → List AtHost
    → Result Unit Failure → Type 0
AreSettingsFor agents words asked None = AreFreshSettings agents words asked
    (split_paths_in (option_copied words.split) (option_copied words.machines))
AreSettingsFor agents words asked (Some path) = AreLongerSettings agents words asked path

-- settings that are there with the agent's interfaces as they are now, whose polls are tried before
-- anything is replaced or printed
abbrev pub IsUpdatedBy : Agents → Source → Existing → List ℕ → List AtHost → Result Unit Failure
    → Type 0
IsUpdatedBy agents s existing old = Then (Quietly (AreKnown s old))
    (λ known. Then (Quietly (AreLines s existing known.items)) (λ lines.
    Then (Quietly (AreFitting agents s.asked (IsUpdatedOf s existing known.items)))
    (λ drafted. IsChanged s existing known.items old lines drafted)))

-- Settings that are brought up to date: they and the old labels are read before the agent is asked.
abbrev pub AreUpdatedSettings : Agents → SettingsArgs → AgentOptions → List ℕ → List AtHost
    → Result Unit Failure → Type 0
AreUpdatedSettings agents words asked path = Then (Quietly (IsApart words))
    (λ done. Then (IsExisting path) (λ existing.
    Then (AreOldLabels (option_copied words.labels)) (λ old. Then (IsAsking agents asked) (λ survey.
    IsUpdatedBy agents (source words asked existing.names survey) existing (string_bytes old)))))

-- settings that are brought up to date, or others
abbrev pub AreSettingsBy : Agents → SettingsArgs → AgentOptions → Option (List ℕ) → List AtHost
    → Result Unit Failure → Type 0
AreSettingsBy agents words asked None = AreSettingsFor agents words asked
    (option_copied words.append)
AreSettingsBy agents words asked (Some path) = AreUpdatedSettings agents words asked path

-- The command: its arguments are read before anything is done.
abbrev pub AreSettings : Agents → SettingsArgs → List AtHost → Result Unit Failure → Type 0
AreSettings agents words = Then (Quietly (IsAsked words)) (λ asked. AreSettingsBy agents words asked
    (option_copied words.update))
