-- What is read of a request in place, and what is written for it.
use Rattle.std.specs.Prelude.{◌≡◌, ℕ, List, ◌++◌, Option, Some}
use Rattle.mon_ber.specs.declared.value.Value.{Value}
use Rattle.mon_ber.specs.declared.value.Value.TheVariants as values
use Rattle.mon_ber.specs.Sequence.{AreSpelled}
use Rattle.mon_pdu.specs.declared.message.Binding.{Binding}
use Rattle.mon_pdu.specs.declared.message.PduKind.{PduKind}
use Rattle.mon_pdu.specs.declared.message.PduKind.TheVariants as kinds
use Rattle.mon_pdu.specs.Grammar.{IsBinding}
use Rattle.mon_pdu.specs.Writing.{list_contents, written_binding}
use Rattle.mon_vacm.specs.Tables.{PolicyTables}
use Rattle.mon_mib.specs.declared.mib.Mib.{Mib}
use Rattle.mon_mib.specs.declared.got.Got.TheVariants.{Found}
use Rattle.mon_mib.specs.declared.shown.Shown.{Shown}
use Rattle.mon_mib.specs.declared.shown.Shown.TheVariants as shown
use Rattle.mon_mib.specs.Known.{Known}
use Rattle.mon_mib.specs.Search.{Sought}
use Rattle.mon_agent.specs.Step.{AreFor, IsGetAnswer, IsNextAnswer}

-- The octets begin with a variable binding, before `rest`. Its answer was written after what was
-- there.
pub record IsPut (R : List ℕ → Binding → Type 0) (octets rest old new : List ℕ) : Type 0 where
  pub asked : Binding
  pub answer : Binding
  pub text : List ℕ
  pub spelled : IsBinding text asked
  pub whole : octets ≡ text ++ rest
  pub right : R asked.name answer
  pub put : new ≡ old ++ written_binding answer

-- The octets, all of them, spell variable bindings. Their answers were written after what was
-- there.
pub record ArePut (R : List ℕ → Binding → Type 0) (octets old new : List ℕ) : Type 0 where
  pub asked : List Binding
  pub answers : List Binding
  pub spelled : AreSpelled IsBinding octets asked
  pub right : AreFor R asked answers
  pub put : new ≡ old ++ list_contents answers

-- the answer to a name in a Get or GetNext; no other request is answered in place
abbrev pub IsAnswerOf : Known → (List ℕ → Type 0) → PduKind → List ℕ → Binding → Type 0
IsAnswerOf k sees kinds.Get name answer = IsGetAnswer k sees name answer
IsAnswerOf k sees kinds.GetNext name answer = IsNextAnswer k sees name answer
IsAnswerOf k sees other name answer = ⊥

-- a search in the view that was granted
abbrev pub sought_in : {D : Type 0} → Mib D → PolicyTables → List ℕ → ℕ → Sought D
sought_in mib policy view moment = record {
  map = mib;
  families = policy.families;
  view = view;
  moment = moment;
}

-- the value that answers a name in a GetNext, by what was found
abbrev pub next_value : Option Shown → Value
next_value (Some (shown.Octets octets)) = values.Octets octets.now
next_value (Some (shown.Other (Found value))) = value
next_value other = values.EndOfMibView

-- the answer to a name in a GetNext, of this name
abbrev pub answer_at : List ℕ → Option Shown → Binding
answer_at name found = record { name = name; value = next_value found }
