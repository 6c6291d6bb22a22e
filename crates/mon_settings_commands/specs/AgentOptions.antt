-- Whom the command `settings` asks, and what it says of the answers.
use Rattle.std.specs.Prelude.{◌≡◌, ◌++◌, ◌==◌, ◌∷◌, ℕ, List, [], All, Option, Some, None, Result}
use Rattle.std.specs.Prelude.{Ok, Err, codes, decimal, option_copied, if◌then◌else◌}
use Rattle.mon_client.specs.Network.{Agents}
use Rattle.mon_cli.specs.declared.meaning.SettingsArgs.{SettingsArgs}
use Rattle.mon_console.specs.declared.failure.Failure.{Failure}
use Rattle.mon_host.specs.AtHost.{AtHost, Noted}
use Rattle.mon_host.specs.declared.level.Level.TheVariants as level
use Rattle.mon_survey.specs.Answers.{count_of}
use Rattle.mon_udp.specs.Addr.{addr_of}
use Rattle.mon_settings_commands.specs.Kinds.{AreKinds, IsFirstNoKind, IsKindWord, kind_words}
use Rattle.mon_settings_commands.specs.Named.{IsFirstNoPeer, NamesSome}
use Rattle.mon_settings_commands.specs.Notes.{form_of}
use Rattle.mon_settings_commands.specs.Percent.{GivesPercentage, GivesSome, IsNoPercentage}
use Rattle.mon_settings_commands.specs.Refused.{IsAddress, IsCommunity, IsNoAddress, IsNoCommunity}
use Rattle.mon_settings_commands.specs.Refused.{OrLater}
use Rattle.mon_settings_commands.specs.Source.{peers_named}
use Rattle.mon_settings_commands.specs.Surveyed.{IsSurveyed}
use Rattle.mon_settings_commands.specs.declared.asking.Survey.{Survey}
use Rattle.mon_settings_commands.specs.declared.settings.AgentOptions.{AgentOptions}

-- what the arguments say of the agent; each peer is named
pub record SaysOf (words : SettingsArgs) (asked : AgentOptions) : Type 0 where
  pub word : asked.agent.word.now ≡ words.address.now
  pub address : addr_of words.address.now ≡ Some asked.agent.address
  pub community : asked.community.now ≡ words.community.now
  pub fits : IsCommunity words.community.now
  pub kinds : AreKinds (kind_words (option_copied words.only)) asked.kinds
  pub percent : GivesPercentage (option_copied words.thresholds) asked.percent
  pub peers : All NamesSome (peers_named words)

-- why the arguments are refused: the first of them, in this order, that is of no form that is read
abbrev pub IsRefused : SettingsArgs → Failure → Type 0
IsRefused words failure =
    OrLater (IsNoAddress words.address.now failure) (IsAddress words.address.now)
    (OrLater (IsNoCommunity words.community.now failure) (IsCommunity words.community.now)
    (OrLater (IsFirstNoKind (kind_words (option_copied words.only)) failure)
    (All IsKindWord (kind_words (option_copied words.only)))
    (OrLater (IsNoPercentage (option_copied words.thresholds) failure)
    (GivesSome (option_copied words.thresholds))
    (IsFirstNoPeer (peers_named words) failure))))

-- What the arguments say of the agent; or why they are refused.
abbrev pub IsAsked : SettingsArgs → Result AgentOptions Failure → Type 0
IsAsked words (Ok asked) = SaysOf words asked
IsAsked words (Err failure) = IsRefused words failure

-- the line of an agent whose ifNumber is another number than that of the interfaces of its ifTable
abbrev pub count_line : List ℕ → (number count : ℕ) → List ℕ
count_line agent number count = agent ++ (codes ": ifNumber is "
    ++ (decimal number ++ (codes ", and ifTable has "
    ++ (decimal count ++ (form_of count (codes " interface") (codes " interfaces")
    ++ codes "\n")))))

-- it is said if the two numbers differ
abbrev pub count_lines : List ℕ → Option ℕ → ℕ → List AtHost
count_lines agent None count = []
count_lines agent (Some number) count = if number == count then []
    else Noted level.Warning (count_line agent number count) ∷ []

-- An agent is asked: nothing is printed, read or replaced. If it answered all, at most one line is
-- said, of its ifNumber.
abbrev pub IsAsking : Agents → AgentOptions → List AtHost → Result Survey Failure → Type 0
IsAsking agents asked log (Ok survey) = IsSurveyed agents asked (Ok survey)
    × (log ≡ count_lines asked.agent.word.now survey.number (count_of survey.answers))
IsAsking agents asked log (Err failure) = IsSurveyed agents asked (Err failure) × (log ≡ [])
