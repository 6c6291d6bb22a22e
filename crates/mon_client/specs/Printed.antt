-- How variable bindings are printed: `NAME = KIND: VALUE`, where a function shows names.
use Rattle.std.specs.Prelude.{◌≡◌, ℕ, Bool, List, [], ◌∷◌, ◌++◌, codes, decimal, nat_le, ◌==◌, ◌||◌}
use Rattle.std.specs.Prelude.{◌&&◌, if◌then◌else◌, Result, Ok, Err}
use Rattle.std.specs.Fmt.{signed_decimal}
use Rattle.std.specs.List.{flat_map, list_all}
use Rattle.hex.specs.Hex.{encode_lower}
use Rattle.mon_ber.specs.declared.value.Value.{Value}
use Rattle.mon_ber.specs.declared.value.Value.TheVariants.{
  Integer,
  Octets,
  Null,
  Name,
  IpAddress,
  Counter32,
  Gauge32,
  TimeTicks,
  Opaque,
  Counter64,
  NoSuchObject,
  NoSuchInstance,
  EndOfMibView,
}
use Rattle.mon_pdu.specs.declared.message.Binding.{Binding}
use Rattle.mon_pdu.specs.declared.message.Body.{Body}
use Rattle.mon_pdu.specs.declared.message.Body.TheVariants.{Pdu, Bulk}
use Rattle.mon_pdu.specs.declared.message.Message.{Message}
use Rattle.mon_app.specs.declared.fault.AppFault.{AppFault}
use Rattle.mon_app.specs.declared.fault.AppFault.TheVariants.{OutOfMemory, AgentStatus}
use Rattle.mon_client.specs.Asking.{IsAsked}
use Rattle.mon_client.specs.AtWire.{AtWire}
use Rattle.mon_client.specs.Question.{QuestionParts}
use Rattle.mon_app.specs.Reading.{is_zero}

-- the octet is a character of ASCII that is seen
abbrev pub is_seen : ℕ → Bool
is_seen octet = nat_le 32 octet && nat_le octet 126

-- a character between quotes: a quote and a backslash have a backslash before them
abbrev pub escaped : ℕ → List ℕ
escaped octet = if octet == 34 || octet == 92 then 92 ∷ octet ∷ [] else octet ∷ []

-- octets in hex digits
unfoldable pub hex_text : List ℕ → List ℕ
hex_text octets = codes "hex " ++ encode_lower octets

-- seen characters in quotes, other octets in hex digits
unfoldable pub string_text : List ℕ → List ℕ
string_text octets = if list_all is_seen octets then codes "\"" ++ flat_map escaped octets
    ++ codes "\"" else hex_text octets

-- a number after its kind
unfoldable pub number_text : List ℕ → ℕ → List ℕ
number_text kind n = kind ++ codes ": " ++ decimal n

-- a text after its kind
unfoldable pub kind_text : List ℕ → List ℕ → List ℕ
kind_text kind text = kind ++ codes ": " ++ text

-- four numbers with dots between them
unfoldable pub quad_text : ℕ → ℕ → ℕ → ℕ → List ℕ
quad_text a b c d = decimal a ++ codes "." ++ decimal b ++ codes "." ++ decimal c ++ codes "."
    ++ decimal d

-- the four octets of an address
unfoldable pub address_text : List ℕ → List ℕ
address_text (a ∷ b ∷ c ∷ d ∷ []) = quad_text a b c d
address_text _ = []

-- a value with its kind
abbrev pub value_shown : (List ℕ → List ℕ) → Value → List ℕ
value_shown show (Integer z) = kind_text (codes "Integer") (signed_decimal z)
value_shown show (Octets o) = kind_text (codes "String") (string_text o)
value_shown show Null = codes "null"
value_shown show (Name o) = kind_text (codes "Oid") (show o)
value_shown show (IpAddress a) = kind_text (codes "IpAddress") (address_text a)
value_shown show (Counter32 n) = number_text (codes "Counter32") n
value_shown show (Gauge32 n) = number_text (codes "Gauge32") n
value_shown show (TimeTicks n) = number_text (codes "TimeTicks") n
value_shown show (Opaque o) = kind_text (codes "Opaque") (hex_text o)
value_shown show (Counter64 n) = number_text (codes "Counter64") n
value_shown show NoSuchObject = codes "noSuchObject"
value_shown show NoSuchInstance = codes "noSuchInstance"
value_shown show EndOfMibView = codes "endOfMibView"

-- a binding's line
unfoldable pub binding_line : (List ℕ → List ℕ) → Binding → List ℕ
binding_line show b = show b.name ++ codes " = " ++ value_shown show b.value ++ codes "\n"

-- what a reply comes to: its variable bindings, or where it has an error status that fault; a Bulk
-- has none, and is no reply
abbrev pub bindings_in : Body → Result (List Binding) AppFault
bindings_in (Pdu p) = if is_zero p.error_status then Ok p.bindings
    else Err (AgentStatus p.error_status p.error_index)
bindings_in (Bulk b) = Ok b.bindings

-- what asking comes to, as variable bindings
abbrev pub answer_of : Result Message AppFault → Result (List Binding) AppFault
answer_of (Ok reply) = bindings_in reply.body
answer_of (Err fault) = Err fault

-- The question was asked, this happened at the wire, and this is the answer.
pub record IsQuestionAnswered (q : QuestionParts) (log : List AtWire)
    (answer : Result (List Binding) AppFault) : Type 0 where
  pub asked : Result Message AppFault
  pub asking : IsAsked q log asked
  pub answer_is : answer ≡ answer_of asked

-- the text of an answer, a line for each variable binding, or its fault; unless memory runs out
abbrev pub Prints : {T : Type 0} → (List ℕ → List ℕ) → (T → List ℕ) → Result (List Binding) AppFault
    → Result T AppFault → Type 0
Prints show bytes (Ok bindings) (Ok text) = bytes text ≡ flat_map (binding_line show) bindings
Prints show bytes (Ok bindings) (Err fault) = fault ≡ OutOfMemory
Prints show bytes (Err fault) (Ok text) = ⊥
Prints show bytes (Err fault) (Err other) = other ≡ fault

-- The question was asked, this happened at the wire, and the answer was printed so.
pub record IsPrinted {T : Type 0} (show : List ℕ → List ℕ) (bytes : T → List ℕ) (q : QuestionParts)
    (log : List AtWire) (printed : Result T AppFault) : Type 0 where
  pub answer : Result (List Binding) AppFault
  pub answered : IsQuestionAnswered q log answer
  pub text : Prints show bytes answer printed
