-- What `agent` and `answer` do.
use Rattle.std.specs.Prelude.{◌≡◌, ◌⊎◌, ℕ, ℤ, List, map, Option, Some, None, option_copied, Result}
use Rattle.std.specs.Prelude.{Ok, Err, String, codes, string_bytes}
use Rattle.std.specs.Global.{Global}
use Rattle.std.specs.Borrow.{Bor}
use Rattle.mon_agent.specs.State.{counters_of, device_of, policy_of, settings_of}
use Rattle.mon_agent.specs.declared.agent.Agent.{Agent as AnyAgent}
use Rattle.mon_agent.specs.declared.reply.Reply.{Reply}
use Rattle.mon_answers.specs.Answered.{ArePrinted, lines_read}
use Rattle.mon_serving.specs.Served.{AnswersIt, Standing, stands}
use Rattle.mon_cli.specs.declared.meaning.AnswerArgs.{AnswerArgs}
use Rattle.mon_cli.specs.declared.meaning.Named.{Named}
use Rattle.mon_console.specs.Failure.{IsMemory, IsOfText, IsPlain}
use Rattle.mon_console.specs.Files.{IsInputText, IsPrint, IsText}
use Rattle.mon_console.specs.Naming.{AreNames}
use Rattle.mon_console.specs.Printing.{shown_names}
use Rattle.mon_console.specs.Settings.{IsRefused}
use Rattle.mon_console.specs.declared.failure.Failure.{Failure}
use Rattle.mon_faults.specs.declared.fault.Fault.TheVariants.{Device}
use Rattle.mon_host.specs.AtHost.{AtHost}
use Rattle.mon_host.specs.Then.{Quietly, Then}
use Rattle.mon_mib.specs.Change.{IsOf, all_failures}
use Rattle.mon_mib.specs.Counters.{no_counts}
use Rattle.mon_mib.specs.Fuse.{IsBlown}
use Rattle.mon_mib.specs.Held.{AreIndexes, Held}
use Rattle.mon_mib.specs.Moment.{IsMoment}
use Rattle.mon_mib.specs.Sim.{Sim, held_of, indexes_of}
use Rattle.mon_mib.specs.declared.change.Change.{Change}
use Rattle.mon_mib.specs.declared.fault.DeviceFault.TheVariants.{BadIndex}
use Rattle.mon_mib.specs.declared.fuse_device.FuseDevice.{FuseDevice}
use Rattle.mon_settings.specs.Accepted.{IsAgent as IsAgentTree, agent_view}
use Rattle.mon_settings.specs.Agent.{agent_of}
use Rattle.mon_settings.specs.Text.{IsRefusal, Says}
use Rattle.mon_settings.specs.declared.agent.AgentSettings.{AgentSettings}
use Rattle.mon_smi.specs.declared.definition.Definition.{Definition}

-- settings with these boots, if they are given
abbrev pub with_boots : Option ℤ → AgentSettings → AgentSettings
with_boots None told = told
with_boots (Some boots) told = record told { settings = record told.settings { boots = boots } }

-- what a text says as an agent's settings; or why it is refused, or memory ran out
abbrev pub IsAgentIn : Option ℤ → List ℕ → Result AgentSettings Failure → Type 0
IsAgentIn boots text (Ok told) = (said : AgentSettings)
    × Says IsAgentTree text (agent_view said) × (told ≡ with_boots boots said)
IsAgentIn boots text (Err failure) = IsRefused (IsRefusal agent_of text) failure

-- the file of the settings is read
abbrev pub AreAgentSettings : List ℕ → Option ℤ → List AtHost
    → Result AgentSettings Failure → Type 0
AreAgentSettings path boots = Then (IsText path)
    (λ text. Quietly (IsAgentIn boots (string_bytes text)))

-- the device in memory of the settings
abbrev pub sim_of : AgentSettings → Sim
sim_of told = record { interfaces = told.interfaces.items; texts = told.texts; failures = 0 }

-- the agent of the settings over this device, which has counted nothing yet
abbrev pub IsFresh : {D : Type 0} → AgentSettings → D → AnyAgent D → Type 0
IsFresh told device agent = (policy_of agent ≡ told.policy) × (settings_of agent ≡ told.settings)
    × (counters_of agent ≡ no_counts) × (device_of agent ≡ device)

-- there is no device of these interfaces
abbrev pub IsNoDevice : AgentSettings → Failure → Type 0
IsNoDevice told failure = ¬ (AreIndexes (indexes_of told.interfaces.items))
    × IsPlain (Device BadIndex) failure

-- the agent of the settings over a device in memory
abbrev pub IsSimulated : AgentSettings → Result (AnyAgent Sim) Failure → Type 0
IsSimulated told (Ok agent) = IsFresh told (sim_of told) agent
IsSimulated told (Err failure) = IsNoDevice told failure

-- the agent of the settings over a device that fails the changes of the fuses
abbrev pub IsFused : AgentSettings → ℕ → Result (AnyAgent (FuseDevice Sim)) Failure → Type 0
IsFused told fuses (Ok agent) = IsFresh told (record {
  device = sim_of told;
  fuses = fuses;
  applies = 0;
  blown = 0;
}) agent
IsFused told fuses (Err failure) = IsNoDevice told failure

-- a time of this many hundredths of a second; or it is out of range
abbrev pub IsMomentOf : ℕ → Result ℕ Failure → Type 0
IsMomentOf hundredths (Ok at) = IsMoment hundredths × (at ≡ hundredths)
IsMomentOf hundredths (Err failure) = ¬ (IsMoment hundredths)
    × IsOfText (codes "--at") (codes "a moment up to 214748364799") failure

-- What is printed for the datagrams of a text, one after another, which arrive at a time and this
-- many times each, with these names, if there are some; or memory ran out.
abbrev pub AreAnswers : {S : Type 0} → (S → S → List ℕ → ℕ → Reply → Type 0) → S → ℕ × ℕ
    → Option (List Definition) → List ℕ → Result (String Global) Failure → Type 0
AreAnswers {S = S} Answers agent arrivals names text (Ok lines) = (after : S)
    × (labels : Option (Bor (List Definition))) × (option_copied labels ≡ names)
    × ArePrinted Answers (record { at = arrivals.0; times = arrivals.1; labels = labels })
    (lines_read text) agent after (string_bytes lines)
AreAnswers Answers agent arrivals names text (Err failure) = IsMemory failure

-- the files of the modules are read, then the datagrams, and the answers are printed
abbrev pub PrintsAnswers : {S : Type 0} → (S → S → List ℕ → ℕ → Reply → Type 0) → S → ℕ × ℕ → Named
    → List AtHost → Result Unit Failure → Type 0
PrintsAnswers Answers agent arrivals named = Then (AreNames (map (λ f. f.now) named.modules.now))
    (λ known. Then IsInputText (λ text. Then (Quietly
    (AreAnswers Answers agent arrivals (shown_names named.shown known) (string_bytes text)))
    (λ lines. IsPrint (string_bytes lines))))

-- what a device with fuses holds
abbrev pub fuse_held : FuseDevice Sim → Held
fuse_held f = held_of f.device

-- how often it failed
abbrev pub fuse_failed : FuseDevice Sim → ℕ
fuse_failed f = all_failures f.device.failures f.blown

-- which changes it fails
abbrev pub FuseRefuses : FuseDevice Sim → Change → Type 0
FuseRefuses f change = IsBlown f.fuses f.applies
    ⊎ ¬ (IsOf (indexes_of f.device.interfaces) change)

-- how an agent over such a device answers
abbrev pub Answers : AnyAgent (FuseDevice Sim) → Standing (FuseDevice Sim)
    → Standing (FuseDevice Sim) → List ℕ → ℕ → Reply → Type 0
Answers agent = AnswersIt fuse_held fuse_failed FuseRefuses (policy_of agent) (settings_of agent)

-- The command `answer`. A time that is out of range is refused before the modules are read.
abbrev pub IsAnswering : AnswerArgs → List AtHost → Result Unit Failure → Type 0
IsAnswering words = Then (AreAgentSettings words.settings.now words.boots)
    (λ told. Then (Quietly (IsFused told words.scene.fuses))
    (λ agent. Then (Quietly (IsMomentOf words.scene.at))
    (λ at. PrintsAnswers (Answers agent) (stands agent) (at, words.scene.times) words.named)))
