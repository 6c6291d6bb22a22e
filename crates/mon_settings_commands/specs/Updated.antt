-- Settings that are there, brought up to date with an agent's interfaces as they are now.
use Rattle.std.specs.Prelude.{◌≡◌, ◌≢◌, ◌⊎◌, ℕ, List, [], Option, Some, None, Result, Ok, Err}
use Rattle.std.specs.Prelude.{String, map, option_copied, string_bytes, unwrap_or}
use Rattle.std.specs.Global.{Global, Vec}
use Rattle.hex.specs.Hex.{encode_lower}
use Rattle.mon_app.specs.declared.fault.AppFault.TheVariants.{BadText}
use Rattle.mon_board.specs.declared.instance.Watched.{Watched}
use Rattle.mon_cli.specs.declared.meaning.SettingsArgs.{SettingsArgs}
use Rattle.mon_console.specs.Failure.{IsMemory}
use Rattle.mon_console.specs.Files.{IsReplacing}
use Rattle.mon_console.specs.declared.failure.Failure.{Failure}
use Rattle.mon_faults.specs.declared.fault.Fault.TheVariants.{App}
use Rattle.mon_host.specs.AtHost.{AtHost, Noted}
use Rattle.mon_host.specs.Then.{Quietly, Then}
use Rattle.mon_host.specs.declared.level.Level.TheVariants as level
use Rattle.mon_settings.specs.StationAccepted.{station_view}
use Rattle.mon_survey.specs.Changes.{change_lines}
use Rattle.mon_survey.specs.Labels.{interfaces_in}
use Rattle.mon_survey.specs.Moved.{At}
use Rattle.mon_survey.specs.Relabelled.{AreKnownIn, IsNotRelabelled, IsRelabelled, indexes_then}
use Rattle.mon_survey.specs.Updated.{IsUpdateFault, IsUpdatedText, new_counters}
use Rattle.mon_survey.specs.declared.choice.Choice.{Choice}
use Rattle.mon_survey.specs.declared.fault.SurveyFault.{SurveyFault}
use Rattle.mon_survey.specs.declared.fault.SurveyFault.TheVariants.{BadLabels, OutOfMemory}
use Rattle.mon_survey.specs.declared.longest.Drafted.{Drafted}
use Rattle.mon_survey.specs.declared.moving.Known.{Known}
use Rattle.mon_survey.specs.declared.options.Options.{Options}
use Rattle.mon_survey.specs.declared.size.TargetSize.{TargetSize}
use Rattle.mon_settings_commands.specs.Notes.{AreSpeedsNoted, Surely}
use Rattle.mon_settings_commands.specs.Settings.{IsDraftPrinted, IsOfLabels}
use Rattle.mon_settings_commands.specs.Source.{IsChoice, IsOfSurvey, Source}
use Rattle.mon_settings_commands.specs.Texts.{AreOptions, IsOfOptions}
use Rattle.mon_settings_commands.specs.declared.existing.Existing.{Existing}

-- Settings that are brought up to date go with no settings that are added to, with neither several
-- files nor modules of their own.
abbrev pub IsApart : SettingsArgs → Result Unit Failure → Type 0
IsApart words (Ok done) = (option_copied words.append ≡ None) × (option_copied words.split ≡ None)
    × (words.modules.now ≡ [])
IsApart words (Err failure) = (failure.fault ≡ App BadText)
    × ((option_copied words.append ≢ None) ⊎ ((option_copied words.split ≢ None)
    ⊎ (words.modules.now ≢ [])))

-- the agent by its engine id, the names that its interfaces had, and what it answered
abbrev pub at_source : Source → List Known → At
at_source s known = record {
  engine = s.survey.engine.items;
  known = known;
  cells = s.survey.answers;
}

-- what settings that are there watch
abbrev pub watched_in : Existing → List Watched
watched_in existing = existing.station.core.watch.instances

-- the path of the file of labels, or nothing if the arguments name none
abbrev pub labels_path : Source → List ℕ
labels_path s = unwrap_or (option_copied s.words.labels) []

-- The names that the old labels say of the agent's interfaces; or why there are none, in a line
-- that names their file.
abbrev pub AreKnown : Source → List ℕ → Result (Vec Known) Failure → Type 0
AreKnown s old (Ok known) = AreKnownIn old (encode_lower s.survey.engine.items) known.items
AreKnown s old (Err failure) = (fault : SurveyFault) × IsOfLabels (labels_path s) fault failure
    × ((fault ≡ OutOfMemory) ⊎ ((fault ≡ BadLabels) × (interfaces_in old ≡ None)))

-- Settings with the agent's interfaces as they are now, by these options, with how long a round of
-- the whole takes at most, and the targets that were added; or why there are none.
abbrev pub IsUpdatedOn : Source → Existing → List Known → Options → Result Drafted Failure → Type 0
IsUpdatedOn s existing known o (Ok drafted) = (choice : Choice) × IsChoice s None choice
    × IsUpdatedText existing.names o (at_source s known) (new_counters choice (at_source s known)
    (watched_in existing)) (string_bytes existing.text) (station_view existing.station)
    (string_bytes drafted.text) drafted.longest drafted.targets.items
IsUpdatedOn s existing known o (Err failure) = (choice : Choice) × (fault : SurveyFault)
    × IsChoice s None choice × IsOfSurvey fault failure
    × IsUpdateFault existing.names o (at_source s known) (new_counters choice (at_source s known)
    (watched_in existing)) (string_bytes existing.text) (station_view existing.station) fault

-- the update by the options that the arguments give, with targets of this size for new interfaces
abbrev pub IsUpdatedOf : Source → Existing → List Known → TargetSize → Result Drafted Failure
    → Type 0
IsUpdatedOf s existing known size (Ok drafted) = (o : Options) × AreOptions s 0 size o
    × IsUpdatedOn s existing known o (Ok drafted)
IsUpdatedOf s existing known size (Err failure) = IsOfOptions failure
    ⊎ ((o : Options) × AreOptions s 0 size o × IsUpdatedOn s existing known o (Err failure))

-- the lines of what changes, or memory ran out
abbrev pub AreLines : Source → Existing → List Known → Result (Vec (String Global)) Failure → Type 0
AreLines s existing known (Ok lines) = (choice : Choice) × IsChoice s None choice
    × (map string_bytes lines.items ≡ change_lines choice (at_source s known) (watched_in existing))
AreLines s existing known (Err failure) = IsMemory failure

-- labels with the agent's interfaces as they are now; or why there are none, in a line that names
-- their file
abbrev pub IsRelabelledText : Source → Existing → List Known → (path old : List ℕ)
    → Result (String Global) Failure → Type 0
IsRelabelledText s existing known path old (Ok text) = (choice : Choice) × IsChoice s None choice
    × IsRelabelled old (encode_lower s.survey.engine.items) s.survey.answers
    (indexes_then choice (at_source s known) (watched_in existing)) (string_bytes text)
IsRelabelledText s existing known path old (Err failure) = (choice : Choice) × (fault : SurveyFault)
    × IsChoice s None choice
    × IsOfLabels path fault failure
    × IsNotRelabelled old (encode_lower s.survey.engine.items) s.survey.answers
    (indexes_then choice (at_source s known) (watched_in existing)) fault

-- they replace the file at a path
abbrev pub AreRelabelledAt : Source → Existing → List Known → (path old : List ℕ) → List AtHost
    → Result Unit Failure → Type 0
AreRelabelledAt s existing known path old = Then (Quietly (IsRelabelledText s existing known path
    old)) (λ text. IsReplacing path (string_bytes text))

-- they replace the file that is named; if none is, nothing is done
abbrev pub AreRelabelledFor : Source → Existing → List Known → List ℕ → Option (List ℕ)
    → List AtHost → Result Unit Failure → Type 0
AreRelabelledFor s existing known old None = Quietly (λ result. result ≡ Ok tt)
AreRelabelledFor s existing known old (Some path) = AreRelabelledAt s existing known path old

-- they replace the file that the arguments name, if they name one
abbrev pub AreRelabelled : Source → Existing → List Known → List ℕ → List AtHost
    → Result Unit Failure → Type 0
AreRelabelled s existing known old = AreRelabelledFor s existing known old
    (option_copied s.words.labels)

-- each line is said
abbrev pub AreLinesNoted : List (List ℕ) → List AtHost → Type 0
AreLinesNoted lines log = log ≡ map (λ line. Noted level.Info line) lines

-- Labels are replaced before the settings are printed, and after that it is said what changed.
abbrev pub IsPutUpdated : Source → Existing → List Known → List ℕ → Vec (String Global) → Drafted
    → List AtHost → Result Unit Failure → Type 0
IsPutUpdated s existing known old lines drafted = Then (AreRelabelled s existing known old)
    (λ done. Then (IsDraftPrinted drafted)
    (λ done. Surely (AreLinesNoted (map string_bytes lines.items))))

-- after that it is said for how many of the agent's interfaces there is no threshold
abbrev pub IsChanged : Source → Existing → List Known → List ℕ → Vec (String Global) → Drafted
    → List AtHost → Result Unit Failure → Type 0
IsChanged s existing known old lines drafted = Then (IsPutUpdated s existing known old lines
    drafted) (λ done. Surely (AreSpeedsNoted s))
