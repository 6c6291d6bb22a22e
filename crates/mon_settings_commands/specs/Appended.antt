-- Settings that are there, to which the targets of an agent are added.
use Rattle.std.specs.Prelude.{◌≡◌, ◌≢◌, ◌⊎◌, ℕ, List, [], Option, Some, None, Result, Ok, Err}
use Rattle.std.specs.Prelude.{String, IfErr, IfOk, map, option_copied, string_bytes}
use Rattle.std.specs.Global.{Global}
use Rattle.mon_app.specs.declared.fault.AppFault.TheVariants.{BadText}
use Rattle.mon_cli.specs.declared.meaning.SettingsArgs.{SettingsArgs}
use Rattle.mon_console.specs.Files.{IsText}
use Rattle.mon_console.specs.Naming.{AreNames}
use Rattle.mon_console.specs.Settings.{AreModuleFiles, AreSettings}
use Rattle.mon_console.specs.declared.failure.Failure.{Failure}
use Rattle.mon_faults.specs.declared.fault.Fault.TheVariants.{App}
use Rattle.mon_host.specs.AtHost.{AtHost}
use Rattle.mon_host.specs.Then.{Quietly, Then}
use Rattle.mon_settings.specs.StationAccepted.{station_view}
use Rattle.mon_smi.specs.declared.definition.Definition.{Definition}
use Rattle.mon_survey.specs.Appended.{IsAppendFault, IsAppendedText}
use Rattle.mon_survey.specs.declared.choice.Choice.{Choice}
use Rattle.mon_survey.specs.declared.fault.SurveyFault.{SurveyFault}
use Rattle.mon_survey.specs.declared.longest.Drafted.{Drafted}
use Rattle.mon_survey.specs.declared.options.Options.{Options}
use Rattle.mon_survey.specs.declared.size.TargetSize.{TargetSize}
use Rattle.mon_settings_commands.specs.Notes.{AreSpeedsNoted, Surely}
use Rattle.mon_settings_commands.specs.Settings.{AreLabels, IsDraftPrinted}
use Rattle.mon_settings_commands.specs.Source.{IsChoice, IsOfSurvey, Source}
use Rattle.mon_settings_commands.specs.Texts.{AreOptions, IsOfOptions}
use Rattle.mon_settings_commands.specs.declared.existing.Existing.{Existing}

-- Settings that are there go neither with several files nor with modules of their own.
abbrev pub IsAlone : SettingsArgs → Result Unit Failure → Type 0
IsAlone words (Ok done) = (option_copied words.split ≡ None) × (words.modules.now ≡ [])
IsAlone words (Err failure) = (failure.fault ≡ App BadText) ×
    ((option_copied words.split ≢ None) ⊎ (words.modules.now ≢ []))

-- the names of the modules that the text of settings lists
abbrev pub AreNamesIn : List ℕ → List AtHost → Result (List Definition) Failure → Type 0
AreNamesIn text = Then (Quietly (AreModuleFiles text)) (λ files. AreNames
    (map string_bytes files.items))

-- what is kept of a text, the names of its modules, and what it says
abbrev pub IsExistingOf : String Global → List Definition → Result Existing Failure → Type 0
IsExistingOf text names (Ok existing) = (existing.text ≡ text) × (existing.names ≡ names)
    × AreSettings (string_bytes text) names (Ok existing.station)
IsExistingOf text names (Err failure) = AreSettings (string_bytes text) names (Err failure)

-- The settings in a file are read: its text, the modules that it lists, and what it says.
abbrev pub IsExisting : List ℕ → List AtHost → Result Existing Failure → Type 0
IsExisting path = Then (IsText path) (λ text. Then (AreNamesIn (string_bytes text)) (λ names.
    Quietly (IsExistingOf text names)))

-- The text of the file of labels that is there; nothing if the arguments name none.
abbrev pub AreOldLabels : Option (List ℕ) → List AtHost → Result (String Global) Failure → Type 0
AreOldLabels None = Quietly (λ result. IfOk result (λ text. string_bytes text ≡ [])
    × IfErr result (λ failure. ⊥))
AreOldLabels (Some path) = IsText path

-- Settings with the agent's targets, of this size, at their end, with how long a round of the whole
-- takes at most, and the targets that were added; or why there are none.
abbrev pub IsAppendedOf : Source → Existing → TargetSize → Result Drafted Failure → Type 0
IsAppendedOf s existing size (Ok drafted) = (o : Options) × (choice : Choice)
    × AreOptions s 0 size o × IsChoice s None choice
    × IsAppendedText existing.names choice o (string_bytes existing.text)
    (station_view existing.station) s.survey.engine.items s.survey.answers
    (string_bytes drafted.text) drafted.longest drafted.targets.items
IsAppendedOf s existing size (Err failure) = IsOfOptions failure
    ⊎ ((o : Options) × (choice : Choice) × (fault : SurveyFault) × AreOptions s 0 size o
    × IsChoice s None choice × IsOfSurvey fault failure
    × IsAppendFault existing.names choice o (string_bytes existing.text)
    (station_view existing.station) s.survey.engine.items s.survey.answers fault)

-- Labels are replaced before the longer settings are printed.
abbrev pub IsPutLonger : Source → Drafted → List ℕ → List AtHost → Result Unit Failure → Type 0
IsPutLonger s drafted old = Then (AreLabels s old) (λ done. IsDraftPrinted drafted)

-- after that it is said for how many of the agent's interfaces there is no threshold
abbrev pub IsLonger : Source → Drafted → List ℕ → List AtHost → Result Unit Failure → Type 0
IsLonger s drafted old = Then (IsPutLonger s drafted old) (λ done. Surely (AreSpeedsNoted s))
