-- What `get`, `next`, `bulk` and `set` do.
use Rattle.std.specs.Prelude.{◌≡◌, ◌⊎◌, ℕ, pos, List, Bool, true, false, Result, Ok, Err, String}
use Rattle.std.specs.Prelude.{string_bytes}
use Rattle.std.specs.Global.{Global}
use Rattle.std.specs.Borrow.{Bor}
use Rattle.mon_client.specs.Network.{Agents}
use Rattle.mon_app.specs.AppFault.{IsUnopened}
use Rattle.mon_client.specs.Printed.{IsPrinted}
use Rattle.mon_client.specs.Question.{QuestionParts}
use Rattle.mon_app.specs.declared.fault.AppFault.{AppFault}
use Rattle.mon_client.specs.declared.question.Asking.{Asking}
use Rattle.mon_client.specs.declared.question.Asking.TheVariants.{Get, GetBulk, GetNext, Set}
use Rattle.mon_ber.specs.declared.value.Value.{Value}
use Rattle.mon_cli.specs.declared.meaning.BulkArgs.{BulkArgs}
use Rattle.mon_cli.specs.declared.meaning.Request.{Request}
use Rattle.mon_cli.specs.declared.meaning.SetArgs.{SetArgs}
use Rattle.mon_commands.specs.Query.{IsGivenValue, IsQuery}
use Rattle.mon_commands.specs.declared.query.Query.{Query}
use Rattle.mon_console.specs.Agents.{IsUnanswered}
use Rattle.mon_console.specs.Failure.{IsMemory}
use Rattle.mon_console.specs.Files.{IsPrint}
use Rattle.mon_console.specs.declared.failure.Failure.{Failure}
use Rattle.mon_faults.specs.declared.fault.Fault.TheVariants.{App}
use Rattle.mon_host.specs.AtHost.{AtHost}
use Rattle.mon_host.specs.Then.{Quietly, Then}
use Rattle.mon_oid.specs.Oid.{dotted}
use Rattle.mon_udp.specs.declared.addr.Addr.{Addr}
use Rattle.mon_smi.specs.Labels.{name_text}
use Rattle.mon_smi.specs.declared.definition.Definition.{Definition}

-- how a command shows identifiers: by names, or in numbers
abbrev pub shown_if : Bool → List Definition → List ℕ → List ℕ
shown_if true known oid = name_text known oid
shown_if false known oid = dotted oid

-- what is asked of an agent in a query about these variables
abbrev pub question_about : Query → Asking → List (List ℕ) → QuestionParts
question_about query asking names = record {
  asking = asking;
  request_id = pos 1;
  community = query.community.now;
  names = names;
}

-- what is asked of an agent in a query
abbrev pub question : Query → Asking → QuestionParts
question query asking = question_about query asking query.asked.items

-- The text of the answer of the agent at an address: a wire was opened to it, and what happened
-- there explains the text, or the fault; or no wire could be opened.
abbrev pub IsAnswerText : Agents → Addr → (List ℕ → List ℕ) → QuestionParts
    → Result (String Global) AppFault → Type 0
IsAnswerText agents at show q (Ok text) =
    agents.Reached at (λ at_wire. IsPrinted show string_bytes q at_wire
    (let r : Result (String Global) AppFault = Ok text in r))
IsAnswerText agents at show q (Err fault) = (agents.Unreached at fault × IsUnopened fault)
    ⊎ agents.Reached at (λ at_wire. IsPrinted show string_bytes q at_wire
    (let r : Result (String Global) AppFault = Err fault in r))

-- the answer to a query as text, where names are shown so; or why there is none
abbrev pub IsAnsweredAs : Agents → (List ℕ → List ℕ) → Query → Asking
    → Result (String Global) Failure → Type 0
IsAnsweredAs agents show query asking (Ok text) =
    IsAnswerText agents query.agent.address show (question query asking) (Ok text)
IsAnsweredAs agents show query asking (Err failure) = IsMemory failure
    ⊎ ((fault : AppFault) × (failure.fault ≡ App fault)
    × IsUnanswered query.agent.word.now fault failure
    × IsAnswerText agents query.agent.address show (question query asking) (Err fault))

-- the answer to a query as text, with names shown as the query asks; or why there is none
abbrev pub IsAnswered : Agents → Query → Asking → Result (String Global) Failure → Type 0
IsAnswered agents query = IsAnsweredAs agents (shown_if query.prints_names query.known) query

-- the agent is asked, and the text of its answer is printed
abbrev pub PrintsAnswer : Agents → Query → Asking → List AtHost → Result Unit Failure → Type 0
PrintsAnswer agents query asking = Then (Quietly (IsAnswered agents query asking))
    (λ text. IsPrint (string_bytes text))

-- what the arguments ask is read, and the agent's answer is printed
abbrev pub IsAsking : Agents → Request → Asking → List AtHost → Result Unit Failure → Type 0
IsAsking agents request asking = Then (IsQuery request)
    (λ query. PrintsAnswer agents query asking)

-- the command `get`
abbrev pub IsGetting : Agents → Request → List AtHost → Result Unit Failure → Type 0
IsGetting agents request = IsAsking agents request Get

-- the command `next`
abbrev pub IsGettingNext : Agents → Request → List AtHost → Result Unit Failure → Type 0
IsGettingNext agents request = IsAsking agents request GetNext

-- the command `bulk`
abbrev pub IsAskingMany : Agents → BulkArgs → List AtHost → Result Unit Failure → Type 0
IsAskingMany agents words = IsAsking agents words.request (GetBulk (record {
  non_repeaters = words.non_repeaters;
  max_repetitions = words.max_repetitions;
}))

-- the agent is asked to assign a value that is lent
abbrev pub PrintsAssigned : Agents → Query → Value → List AtHost → Result Unit Failure → Type 0
PrintsAssigned agents query value log result =
    (lent : Bor Value) × (lent.now ≡ value) × PrintsAnswer agents query (Set lent) log result

-- The command `set`: the value is read after all else.
abbrev pub IsSetting : Agents → SetArgs → List AtHost → Result Unit Failure → Type 0
IsSetting agents words = Then (IsQuery words.request)
    (λ query. Then (Quietly (IsGivenValue words.kind.now words.value.now))
    (λ value. PrintsAssigned agents query value))
