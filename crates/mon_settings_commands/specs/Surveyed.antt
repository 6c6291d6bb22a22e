-- What the command `settings` asks of an agent.
use Rattle.std.specs.Prelude.{◌≡◌, ◌⊎◌, ℕ, List, [], ◌∷◌, Bool, true, false, Result, Ok, Err}
use Rattle.mon_client.specs.AtWire.{AtWire}
use Rattle.mon_client.specs.Network.{Agents}
use Rattle.mon_app.specs.AppFault.{IsUnopened}
use Rattle.mon_app.specs.declared.fault.AppFault.{AppFault}
use Rattle.mon_console.specs.Agents.{IsUnanswered}
use Rattle.mon_console.specs.declared.agents.AgentAt.{AgentAt}
use Rattle.mon_console.specs.declared.failure.Failure.{Failure}
use Rattle.mon_faults.specs.declared.fault.Fault.TheVariants.{App}
use Rattle.mon_host.specs.Then.{Quietly, Then}
use Rattle.mon_survey.specs.Column.{columns}
use Rattle.mon_survey.specs.Plan.{needs}
use Rattle.mon_survey.specs.declared.answers.Cell.{Cell}
use Rattle.mon_survey.specs.declared.choice.Kinds.{Kinds}
use Rattle.mon_survey.specs.declared.column.Column.{Column}
use Rattle.mon_settings_commands.specs.Engine.{IsHead, IsSameEngine}
use Rattle.mon_settings_commands.specs.Exchange.{AreExplained, Exchange}
use Rattle.mon_settings_commands.specs.Walked.{IsWalk}
use Rattle.mon_settings_commands.specs.declared.asking.Head.{Head}
use Rattle.mon_settings_commands.specs.declared.asking.Survey.{Survey}
use Rattle.mon_settings_commands.specs.declared.settings.AgentOptions.{AgentOptions}

-- a column is walked if it is needed
abbrev pub IsWalkIf : Bool → List ℕ → Column → List Cell → List Exchange
    → Result (List Cell) Failure → Type 0
IsWalkIf true agent column cells = IsWalk agent column cells
IsWalkIf false agent column cells = Quietly (λ result. result ≡ Ok cells)

-- Of these columns those that the kinds need are walked, in their order. The cells of each come
-- after those before.
abbrev pub AreWalked : List ℕ → Kinds → List Column → List Cell → List Exchange
    → Result (List Cell) Failure → Type 0
AreWalked agent kinds [] cells = Quietly (λ result. result ≡ Ok cells)
AreWalked agent kinds (column ∷ columns) cells = Then (IsWalkIf (needs kinds column) agent column
    cells)
    (λ more. AreWalked agent kinds columns more)

-- what an agent answered, once its engine is the same after the walk
abbrev pub IsSurveyOf : List ℕ → Head → List Cell → List Exchange → Result Survey Failure → Type 0
IsSurveyOf agent head cells = Then (IsSameEngine agent head.engine.items)
    (λ done. Quietly (λ result. result ≡ Ok (record {
      engine = head.engine;
      number = head.number;
      answers = cells;
    })))

-- A survey: the agent is asked for its engine, for the columns that the kinds need, and for its
-- engine again.
abbrev pub IsSurvey : List ℕ → Kinds → List Exchange → Result Survey Failure → Type 0
IsSurvey agent kinds = Then (IsHead agent)
    (λ head. Then (AreWalked agent kinds columns [])
    (λ cells. IsSurveyOf agent head cells))

-- no wire could be opened to an agent: memory ran out, or a socket failed
pub record IsUnwired (agents : Agents) (agent : AgentAt) (failure : Failure) : Type 0 where
  pub fault : AppFault
  pub unreached : agents.Unreached agent.address fault
  pub why : IsUnopened fault
  pub is : failure.fault ≡ App fault
  pub said : IsUnanswered agent.word.now fault failure

-- what happened at a wire explains a survey; the first request-id is 1
pub record IsExplained (asked : AgentOptions) (result : Result Survey Failure)
    (at_wire : List AtWire) :
    Type 0 where
  pub exchanges : List Exchange
  pub survey : IsSurvey asked.agent.word.now asked.kinds exchanges result
  pub last : ℕ
  pub explained : AreExplained asked.community.now 0 exchanges last at_wire

-- A wire was opened to an agent, and what happened there explains what it answered, or why there is
-- no answer; or no wire could be opened.
abbrev pub IsSurveyed : Agents → AgentOptions → Result Survey Failure → Type 0
IsSurveyed agents asked (Ok survey) = agents.Reached asked.agent.address
    (IsExplained asked (Ok survey))
IsSurveyed agents asked (Err failure) = IsUnwired agents asked.agent failure
    ⊎ agents.Reached asked.agent.address (IsExplained asked (Err failure))
