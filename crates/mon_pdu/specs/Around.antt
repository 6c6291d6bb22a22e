-- A message around the octets of its variable bindings, whatever these are.
use Rattle.std.specs.Prelude.{ℕ, pos, List, ◌++◌}
use Rattle.mon_ber.specs.declared.value.Value.TheVariants as values
use Rattle.mon_ber.specs.Writing.{written, element}
use Rattle.mon_pdu.specs.declared.message.Body.{Body}
use Rattle.mon_pdu.specs.declared.message.Message.{Message}
use Rattle.mon_pdu.specs.Grammar.{tag_of}
use Rattle.mon_pdu.specs.declared.writing.Listed.{Listed}
use Rattle.mon_pdu.specs.declared.writing.Listed.TheVariants.{Bindings, Written}
use Rattle.mon_pdu.specs.Writing.{leading_integers, list_contents}

-- the octets of variable bindings, also of those that were written before
abbrev pub octets_of : Listed → List ℕ
octets_of (Bindings bindings) = list_contents bindings.now
octets_of (Written octets) = octets.now

-- the contents of the PDU
abbrev pub contents_of_body : Body → List ℕ → List ℕ
contents_of_body body list = leading_integers body ++ element 0x30 list

-- the PDU
unfoldable pub body_around : Body → List ℕ → List ℕ
body_around body list = element (tag_of body) (contents_of_body body list)

-- the contents of the message
abbrev pub contents_of_message : Message → List ℕ → List ℕ
contents_of_message m list = written (values.Integer (pos 1))
    ++ (written (values.Octets m.community) ++ body_around m.body list)

-- the message
unfoldable pub message_around : Message → List ℕ → List ℕ
message_around m list = element 0x30 (contents_of_message m list)
