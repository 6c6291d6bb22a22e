-- The settings that the command `settings` prints.
use Rattle.std.specs.Prelude.{◌≡◌, ◌⊎◌, ℕ, List, ◌++◌, Option, Some, None, Result, Ok, Err, String}
use Rattle.std.specs.Prelude.{codes, decimal, length, option_copied, string_bytes}
use Rattle.std.specs.Global.{Global}
use Rattle.hex.specs.Hex.{encode_lower}
use Rattle.mon_console.specs.Failure.{HasLine}
use Rattle.mon_console.specs.Files.{IsReplacing}
use Rattle.mon_console.specs.declared.failure.Failure.{Failure}
use Rattle.mon_host.specs.AtHost.{AtHost}
use Rattle.mon_host.specs.Then.{Quietly, Then}
use Rattle.mon_survey.specs.Appended.{shown_by}
use Rattle.mon_survey.specs.Labels.{IsLabels, IsNoLabels, indexes_of}
use Rattle.mon_survey.specs.Meant.{IsFault, IsSettingsText}
use Rattle.mon_survey.specs.declared.choice.Choice.{Choice}
use Rattle.mon_survey.specs.declared.fault.SurveyFault.{SurveyFault}
use Rattle.mon_survey.specs.declared.fault.SurveyFault.TheVariants.{Misread, SameEngine}
use Rattle.mon_survey.specs.declared.fault.SurveyFault.TheVariants.{TooManyInterfaces}
use Rattle.mon_survey.specs.declared.longest.Drafted.{Drafted}
use Rattle.mon_survey.specs.declared.options.Options.{Options}
use Rattle.mon_survey.specs.declared.size.TargetSize.{TargetSize}
use Rattle.mon_settings_commands.specs.Notes.{IsPrintNoted}
use Rattle.mon_settings_commands.specs.Source.{IsChoice, IsOfSurvey, Source}
use Rattle.mon_settings_commands.specs.Texts.{AreOptions, IsOfOptions}

-- by how much a group's ports and the number of its file are counted up
abbrev pub up_of : Option ℕ → ℕ
up_of None = 0
up_of (Some group) = group

-- The settings of a group or of all by targets of this size: a text by the options and what the
-- agent answered, with how long a round of what it is read as takes at most, and its targets; or
-- why there is none.
abbrev pub IsSettingsOf : Source → Option ℕ → TargetSize → Result Drafted Failure → Type 0
IsSettingsOf s group size (Ok drafted) = (o : Options) × (choice : Choice)
    × AreOptions s (up_of group) size o × IsChoice s group choice
    × IsSettingsText s.names (shown_by s.names (length o.modules.now)) choice o
    s.survey.engine.items s.survey.answers (string_bytes drafted.text) drafted.longest
    drafted.targets.items
IsSettingsOf s group size (Err failure) = IsOfOptions failure
    ⊎ ((o : Options) × (choice : Choice) × (fault : SurveyFault) × AreOptions s (up_of group) size o
    × IsChoice s group choice × IsOfSurvey fault failure
    × IsFault s.names (shown_by s.names (length o.modules.now)) choice o s.survey.engine.items
    s.survey.answers fault)

-- the text for what is wrong in a file of labels, after its path
abbrev pub labels_words : SurveyFault → List ℕ
labels_words (TooManyInterfaces n) = codes ": " ++ (decimal n
    ++ codes
    " interfaces are more than the 4,096 of a file of labels: choose fewer by --match or --up")
labels_words SameEngine = codes
    ": an interface in it has this agent's engine id: name another file, or remove the agent's"
labels_words Misread = codes ": the labels are read as others than those that were meant"
labels_words fault = codes ": this is no file of labels: a TOML text with [[interface]] tables"

-- a failure says this fault of a survey, and names the file of labels in which it is
pub record IsOfLabels (path : List ℕ) (fault : SurveyFault) (failure : Failure) : Type 0 where
  pub survey : IsOfSurvey fault failure
  pub more : HasLine (path ++ labels_words fault) failure.more

-- The file of labels at a path: the texts of the agent's interfaces after the old ones, or why
-- there are none.
abbrev pub IsLabelsText : Source → (path old : List ℕ) → Result (String Global) Failure → Type 0
IsLabelsText s path old (Ok text) = (choice : Choice) × IsChoice s None choice
    × IsLabels old (encode_lower s.survey.engine.items) s.survey.answers
    (indexes_of choice s.survey.answers) (string_bytes text)
IsLabelsText s path old (Err failure) = (choice : Choice) × (fault : SurveyFault)
    × IsChoice s None choice
    × IsOfLabels path fault failure
    × IsNoLabels old (encode_lower s.survey.engine.items) s.survey.answers
    (indexes_of choice s.survey.answers) fault

-- labels replace the file at a path
abbrev pub AreLabelsAt : Source → List ℕ → List ℕ → List AtHost → Result Unit Failure → Type 0
AreLabelsAt s path old = Then (Quietly (IsLabelsText s path old))
    (λ text. IsReplacing path (string_bytes text))

-- labels replace the file that is named; if none is, nothing is done
abbrev pub AreLabelsFor : Source → List ℕ → Option (List ℕ) → List AtHost → Result Unit Failure
    → Type 0
AreLabelsFor s old None = Quietly (λ result. result ≡ Ok tt)
AreLabelsFor s old (Some path) = AreLabelsAt s path old

-- labels replace the file that the arguments name, if they name one
abbrev pub AreLabels : Source → List ℕ → List AtHost → Result Unit Failure → Type 0
AreLabels s old = AreLabelsFor s old (option_copied s.words.labels)

-- settings are printed, and it is said how long a round of them takes at most
abbrev pub IsDraftPrinted : Drafted → List AtHost → Result Unit Failure → Type 0
IsDraftPrinted drafted = IsPrintNoted (string_bytes drafted.text) (codes "these settings")
    drafted.longest
