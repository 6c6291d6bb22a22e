-- What settings are written from.
use Rattle.std.specs.Prelude.{◌≡◌, ◌⊎◌, ℕ, List, [], Option, Result, Ok, Err, codes, map}
use Rattle.mon_cli.specs.declared.meaning.SettingsArgs.{SettingsArgs}
use Rattle.mon_console.specs.Failure.{IsMemory}
use Rattle.mon_console.specs.declared.failure.Failure.{Failure}
use Rattle.mon_faults.specs.Fault.{innermost_of}
use Rattle.mon_smi.specs.declared.definition.Definition.{Definition}
use Rattle.mon_survey.specs.Fault.{name_of, number_of}
use Rattle.mon_survey.specs.declared.choice.Choice.{Choice}
use Rattle.mon_survey.specs.declared.fault.SurveyFault.{SurveyFault}
use Rattle.mon_settings_commands.specs.declared.asking.Survey.{Survey}
use Rattle.mon_settings_commands.specs.declared.settings.AgentOptions.{AgentOptions}
use Rattle.mon_settings_commands.specs.declared.settings.Input.{Input}

-- the arguments, what they say of the agent, the names that are known, and what the agent answered
pub record Source : Type 0 where
  pub words : SettingsArgs
  pub asked : AgentOptions
  pub names : List Definition
  pub survey : Survey

-- what is lent, as it is
abbrev pub source_in : Input → Source
source_in g = record {
  words = g.words.now;
  asked = g.asked;
  names = g.names.now;
  survey =
      g.survey.now;
}

-- the texts that name peers
abbrev pub peers_named : SettingsArgs → List (List ℕ)
peers_named words = map (λ text. text.now) words.peers.now

-- the counters that are polled: those of a group, or all
pub record IsChoice (s : Source) (of : Option ℕ) (choice : Choice) : Type 0 where
  pub kinds : choice.kinds ≡ s.asked.kinds
  pub up : choice.up ≡ s.words.up
  pub part : choice.part.now ≡ s.words.part.now
  pub group : choice.group ≡ of

-- a failure says this fault of a survey
pub record IsOfSurvey (fault : SurveyFault) (failure : Failure) : Type 0 where
  pub part : (innermost_of failure.fault).part ≡ codes "mon_survey"
  pub number : (innermost_of failure.fault).number ≡ number_of fault
  pub name : (innermost_of failure.fault).name ≡ name_of fault

-- this step, or nothing was done since memory ran out before it
abbrev pub OrMemory : {A C : Type 0} → (List C → Result A Failure → Type 0) → List C
    → Result A Failure → Type 0
OrMemory Step log (Ok value) = Step log (Ok value)
OrMemory Step log (Err failure) = ((log ≡ []) × IsMemory failure) ⊎ Step log (Err failure)
