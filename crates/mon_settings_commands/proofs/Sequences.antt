-- What follows each step of the command `settings`.
use Rattle.std.proofs.Common.{List, ℕ, [], length, string_bytes}
use Rattle.std.specs.Global.{Global, Vec}
use Rattle.std.specs.Prelude.{Result, String, option_copied}
use Rattle.mon_client.specs.Network.{Agents}
use Rattle.mon_cli.specs.declared.meaning.SettingsArgs.{SettingsArgs}
use Rattle.mon_console.specs.declared.failure.Failure.{Failure}
use Rattle.mon_host.specs.AtHost.{AtHost}
use Rattle.mon_host.specs.Then.{Quietly, Then}
use Rattle.mon_survey.specs.declared.longest.Drafted.{Drafted}
use Rattle.mon_survey.specs.declared.moving.Known.{Known}
use Rattle.mon_settings_commands.specs.Appended.{AreOldLabels, IsAppendedOf, IsExisting, IsLonger}
use Rattle.mon_settings_commands.specs.AgentOptions.{IsAsking}
use Rattle.mon_settings_commands.specs.Command.{IsUpdatedBy, source}
use Rattle.mon_settings_commands.specs.Fitting.{AreFitting}
use Rattle.mon_settings_commands.specs.Notes.{Surely}
use Rattle.mon_settings_commands.specs.Parts.{AreAbsent, AreWritten}
use Rattle.mon_settings_commands.specs.Settings.{AreLabels, IsDraftPrinted}
use Rattle.mon_settings_commands.specs.Source.{Source}
use Rattle.mon_settings_commands.specs.Updated.{AreLines, AreLinesNoted, IsChanged, IsUpdatedOf}
use Rattle.mon_settings_commands.specs.declared.asking.Survey.{Survey}
use Rattle.mon_settings_commands.specs.declared.existing.Existing.{Existing}
use Rattle.mon_settings_commands.specs.declared.settings.AgentOptions.{AgentOptions}

abbrev pub AfterFit : SettingsArgs → AgentOptions → Existing → String Global → Survey → Drafted → List AtHost → Result Unit Failure → Type 0
AfterFit words asked existing old survey drafted = IsLonger (source words asked existing.names survey) drafted (string_bytes old)

abbrev pub AfterSurvey : Agents → SettingsArgs → AgentOptions → Existing → String Global → Survey → List AtHost → Result Unit Failure → Type 0
AfterSurvey agents words asked existing old survey =
    Then (Quietly (AreFitting agents asked (IsAppendedOf (source words asked existing.names survey) existing))) (AfterFit words asked existing old survey)

abbrev pub AfterOld : Agents → SettingsArgs → AgentOptions → Existing → String Global → List AtHost → Result Unit Failure → Type 0
AfterOld agents words asked existing old = Then (IsAsking agents asked) (AfterSurvey agents words asked existing old)

abbrev pub AfterExisting : Agents → SettingsArgs → AgentOptions → Existing → List AtHost → Result Unit Failure → Type 0
AfterExisting agents words asked existing = Then (AreOldLabels (option_copied words.labels)) (AfterOld agents words asked existing)

abbrev pub AfterAlone : Agents → SettingsArgs → AgentOptions → List ℕ → Unit {0} → List AtHost → Result Unit Failure → Type 0
AfterAlone agents words asked path done = Then (IsExisting path) (AfterExisting agents words asked)

abbrev pub AfterLabels : List ℕ → Vec Drafted → Unit {0} → List AtHost → Result Unit Failure → Type 0
AfterLabels folder parts done = AreWritten folder 0 parts.items

abbrev pub AfterAbsent : Source → List ℕ → Vec Drafted → Unit {0} → List AtHost → Result Unit Failure → Type 0
AfterAbsent s folder parts done = Then (AreLabels s []) (AfterLabels folder parts)

abbrev pub AfterParts : Source → List ℕ → Vec Drafted → List AtHost → Result Unit Failure → Type 0
AfterParts s folder parts = Then (AreAbsent folder 0 (length parts.items)) (AfterAbsent s folder parts)

abbrev pub AfterNews : Agents → SettingsArgs → AgentOptions → Existing → String Global → Survey → List AtHost → Result Unit Failure → Type 0
AfterNews agents words asked existing old survey = IsUpdatedBy agents (source words asked existing.names survey) existing (string_bytes old)

abbrev pub AfterOldNames : Agents → SettingsArgs → AgentOptions → Existing → String Global → List AtHost → Result Unit Failure → Type 0
AfterOldNames agents words asked existing old = Then (IsAsking agents asked) (AfterNews agents words asked existing old)

abbrev pub AfterThere : Agents → SettingsArgs → AgentOptions → Existing → List AtHost → Result Unit Failure → Type 0
AfterThere agents words asked existing = Then (AreOldLabels (option_copied words.labels)) (AfterOldNames agents words asked existing)

abbrev pub AfterApart : Agents → SettingsArgs → AgentOptions → List ℕ → Unit {0} → List AtHost → Result Unit Failure → Type 0
AfterApart agents words asked path done = Then (IsExisting path) (AfterThere agents words asked)

abbrev pub AfterLines : Agents → Source → Existing → List ℕ → Vec Known → Vec (String Global) → List AtHost → Result Unit Failure → Type 0
AfterLines agents s existing old known lines =
    Then (Quietly (AreFitting agents s.asked (IsUpdatedOf s existing known.items))) (λ drafted. IsChanged s existing known.items old lines drafted)

abbrev pub AfterKnown : Agents → Source → Existing → List ℕ → Vec Known → List AtHost → Result Unit Failure → Type 0
AfterKnown agents s existing old known = Then (Quietly (AreLines s existing known.items)) (AfterLines agents s existing old known)

abbrev pub AfterLabelled : Drafted → List (List ℕ) → Unit {0} → List AtHost → Result Unit Failure → Type 0
AfterLabelled drafted lines done = Then (IsDraftPrinted drafted) (λ done. Surely (AreLinesNoted lines))
