-- Questions to an agent, one after another, and what each came to.
use Rattle.std.specs.Prelude.{◌≡◌, ℕ, pos, nat_lt, ◌+◌, List, [], ◌∷◌, ◌++◌, Option, Result, Ok}
use Rattle.std.specs.Prelude.{Err, if◌then◌else◌}
use Rattle.std.specs.Global.{Vec}
use Rattle.mon_client.specs.AtWire.{AtWire}
use Rattle.mon_client.specs.Printed.{IsQuestionAnswered}
use Rattle.mon_client.specs.Question.{QuestionParts as Question}
use Rattle.mon_app.specs.declared.fault.AppFault.{AppFault}
use Rattle.mon_client.specs.declared.question.Asking.{Asking}
use Rattle.mon_console.specs.Agents.{IsUnanswered}
use Rattle.mon_console.specs.declared.failure.Failure.{Failure}
use Rattle.mon_faults.specs.declared.fault.Fault.TheVariants.{App}
use Rattle.mon_pdu.specs.declared.message.Binding.{Binding}
use Rattle.mon_udp.specs.Told.{GoesOnBy}

-- a question, and what it came to: the variable bindings of its reply, or a fault
pub record Exchange : Type 0 where
  pub asking : Asking
  pub names : List (List ℕ)
  pub answer : Result (List Binding) AppFault

-- the request-id after this one, which is one more; 0 follows the highest
abbrev pub next_id : ℕ → ℕ
next_id id = if nat_lt id 2147483647 then id + 1 else 0

-- the question of an exchange, in a community and under a request-id
abbrev pub question_of : List ℕ → ℕ → Exchange → Question
question_of community id e = record {
  asking = e.asking;
  request_id = pos id;
  community = community;
  names = e.names;
}

-- Exchanges in their order, each explained by what happened at the wire. Their request-ids go on
-- from the last one before them, and this is the last one after them.
abbrev pub AreExplained : List ℕ → ℕ → List Exchange → ℕ → List AtWire → Type 0
AreExplained community id [] last log = (log ≡ []) × (last ≡ id)
AreExplained community id (e ∷ es) last log = (begin : List AtWire) × (rest : List AtWire)
    × (log ≡ begin ++ rest) × IsQuestionAnswered (question_of community (next_id id) e) begin
    e.answer
    × AreExplained community (next_id id) es last rest

-- Questions were asked, of which this holds. Their request-ids go on from one to the last one.
pub record AsksBy (Holds : List Exchange → Type 0) (community : List ℕ) (id last : ℕ)
    (before after : Option (List AtWire)) : Type 0 where
  pub exchanges : List Exchange
  pub holds : Holds exchanges
  pub explained : GoesOnBy (AreExplained community id exchanges last) before after

-- the result of an answer: its variable bindings, or the failure of the agent that gave none
abbrev pub IsMadeOf : List ℕ → Result (List Binding) AppFault → Result (Vec Binding) Failure
    → Type 0
IsMadeOf agent (Ok bindings) (Ok given) = given.items ≡ bindings
IsMadeOf agent (Ok bindings) (Err failure) = ⊥
IsMadeOf agent (Err fault) (Ok given) = ⊥
IsMadeOf agent (Err fault) (Err failure) = (failure.fault ≡ App fault)
    × IsUnanswered agent fault failure

-- one question, and what it came to
abbrev pub IsExchange : Asking → List (List ℕ) → List Exchange → Result (List Binding) AppFault
    → Type 0
IsExchange asking names log result = log ≡ (record {
  asking = asking;
  names = names;
  answer = result;
}) ∷ []

-- one question, and the result of its answer
abbrev pub IsQuestion : List ℕ → Asking → List (List ℕ) → List Exchange
    → Result (Vec Binding) Failure → Type 0
IsQuestion agent asking names log result = (answer : Result (List Binding) AppFault)
    × (log ≡ (record { asking = asking; names = names; answer = answer }) ∷ [])
    × IsMadeOf agent answer result
