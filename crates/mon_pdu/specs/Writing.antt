-- The spelling that is written: the one with the shortest lengths and numbers.
use Rattle.std.specs.Prelude.{FitsSigned, ℕ, ◌<◌, ◌^◌, pos, List, ◌++◌, length}
use Rattle.std.specs.Int.{w32}
use Rattle.std.specs.List.{flat_map, AllByRecursion}
use Rattle.mon_ber.specs.declared.value.Value.TheVariants as values
use Rattle.mon_ber.specs.Writing.{written, element, IsValid as IsValidValue}
use Rattle.mon_pdu.specs.declared.message.Binding.{Binding}
use Rattle.mon_pdu.specs.declared.message.Body.{Body}
use Rattle.mon_pdu.specs.declared.message.Message.{Message}
use Rattle.mon_pdu.specs.Grammar.{tag_of, first_of, second_of, third_of, bindings_of}

-- the contents of a variable binding
abbrev pub binding_contents : Binding → List ℕ
binding_contents b = written (values.Name b.name) ++ written b.value

-- a variable binding (RFC 3416 section 3, VarBind)
unfoldable pub written_binding : Binding → List ℕ
written_binding b = element 0x30 (binding_contents b)

-- variable bindings, one after the other
abbrev pub list_contents : List Binding → List ℕ
list_contents bs = flat_map written_binding bs

-- the SEQUENCE of the variable bindings (RFC 3416 section 3, VarBindList)
unfoldable pub written_list : List Binding → List ℕ
written_list bs = element 0x30 (list_contents bs)

-- the three INTEGERs that a PDU begins with
abbrev pub leading_integers : Body → List ℕ
leading_integers body = written (values.Integer (first_of body))
    ++ written (values.Integer (second_of body)) ++ written (values.Integer (third_of body))

-- the contents of a PDU
abbrev pub body_contents : Body → List ℕ
body_contents body = leading_integers body ++ written_list (bindings_of body)

-- a PDU (RFC 3416 section 3)
unfoldable pub written_body : Body → List ℕ
written_body body = element (tag_of body) (body_contents body)

-- the contents of a message: the version 1, the community and the PDU
abbrev pub message_contents : Message → List ℕ
message_contents m = written (values.Integer (pos 1)) ++ (written (values.Octets m.community)
    ++ written_body m.body)

-- a message (RFC 1901 section 3)
unfoldable pub written_message : Message → List ℕ
written_message m = element 0x30 (message_contents m)

-- The message can be written: a length takes 4 octets at most, and the inner ones are no longer
-- than the outer one.
abbrev pub HasLength : Message → Type 0
HasLength m = length (message_contents m) < 2 ^ 32

-- A variable binding of the types: its name is an object identifier, and its value is in the range
-- of its type.
pub record IsValidBinding (b : Binding) : Type 0 where
  pub name : IsValidValue (values.Name b.name)
  pub value : IsValidValue b.value

-- A message of the types: its numbers are 32-bit integers, and its variable bindings are valid.
-- Every message that is read is so.
pub record IsValid (m : Message) : Type 0 where
  pub first : FitsSigned w32 (first_of m.body)
  pub second : FitsSigned w32 (second_of m.body)
  pub third : FitsSigned w32 (third_of m.body)
  pub bindings : AllByRecursion IsValidBinding (bindings_of m.body)
