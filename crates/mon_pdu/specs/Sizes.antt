-- Messages that differ only in their variable bindings, or only in their error.
use Rattle.std.specs.Prelude.{ℕ, ℤ, List}
use Rattle.mon_pdu.specs.declared.message.Binding.{Binding}
use Rattle.mon_pdu.specs.declared.message.Body.{Body}
use Rattle.mon_pdu.specs.declared.message.Body.TheVariants.{Pdu, Bulk}
use Rattle.mon_pdu.specs.declared.message.Message.{Message}
use Rattle.mon_pdu.specs.declared.message.Pdu.{Pdu as AnyPdu}

-- a PDU with other variable bindings
abbrev pub body_with : Body → List Binding → Body
body_with (Pdu p) bindings = Pdu (record p { bindings = bindings })
body_with (Bulk p) bindings = Bulk (record p { bindings = bindings })

-- a message with other variable bindings
abbrev pub with_bindings : Message → List Binding → Message
with_bindings m bindings = record m { body = body_with m.body bindings }

-- a message of this community with this PDU, but with this error-status and error-index
abbrev pub with_error : List ℕ → AnyPdu → ℤ → ℤ → Message
with_error community p status index = record {
  community = community;
  body = Pdu
      (record p { error_status = status; error_index = index });
}
