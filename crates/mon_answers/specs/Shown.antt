-- How an agent's reply is printed: in hex digits, or as a client prints it.
use Rattle.std.specs.Prelude.{ℕ, ℤ, List, ◌++◌, codes, decimal, Option, Some, None, Result, Ok, Err}
use Rattle.std.specs.Prelude.{unwrap_or}
use Rattle.std.specs.Borrow.{Bor}
use Rattle.std.specs.Fmt.{signed_decimal}
use Rattle.std.specs.List.{flat_map}
use Rattle.hex.specs.Hex.{encode_lower}
use Rattle.mon_pdu.specs.declared.fault.PduFault.{PduFault}
use Rattle.mon_pdu.specs.declared.message.Body.{Body}
use Rattle.mon_pdu.specs.declared.message.Body.TheVariants as bodies
use Rattle.mon_pdu.specs.declared.message.Message.{Message}
use Rattle.mon_pdu.specs.declared.message.Pdu.{Pdu}
use Rattle.mon_pdu.specs.Reading.{message_at}
use Rattle.mon_smi.specs.declared.definition.Definition.{Definition}
use Rattle.mon_smi.specs.Labels.{name_text}
use Rattle.mon_agent.specs.declared.reply.Reply.{Reply}
use Rattle.mon_agent.specs.declared.reply.Reply.TheVariants.{Send, Silent}
use Rattle.mon_agent.specs.declared.reply.Silence.{Silence}
use Rattle.mon_agent.specs.Silence.{number_of, name_of}
use Rattle.mon_client.specs.Printed.{binding_line}
use Rattle.mon_poller.specs.Status.{status_name}

-- the line for a datagram without a reply: the cause by number and name
unfoldable pub silence_line : Silence → List ℕ
silence_line cause = codes "silent " ++ decimal (number_of cause) ++ codes " " ++ name_of cause
    ++ codes "\n"

-- octets in hex digits, as a line
unfoldable pub digits_line : List ℕ → List ℕ
digits_line octets = encode_lower octets ++ codes "\n"

-- the name of an error status; one without a name is another
abbrev pub status_word : ℤ → List ℕ
status_word status = unwrap_or (status_name status) (codes "another error-status")

-- the line of an error status, by name and number, and an error index
unfoldable pub status_line : ℤ → ℤ → List ℕ
status_line status index = codes "reply " ++ status_word status ++ codes " ("
    ++ signed_decimal status ++ codes ") " ++ signed_decimal index ++ codes "\n"

-- a response as a client prints it, with the names of definitions: the line of its error status,
-- and a line for each variable binding
unfoldable pub pdu_text : List Definition → Pdu → List ℕ
pdu_text labels p = status_line p.error_status p.error_index
    ++ flat_map (binding_line (name_text labels)) p.bindings

-- the PDU of a body; a GetBulk is none
abbrev pub pdu_of : Body → Option Pdu
pdu_of (bodies.Pdu p) = Some p
pdu_of (bodies.Bulk b) = None

-- the PDU of the message that was read, if one was
abbrev pub pdu_read : Result Message PduFault → Option Pdu
pdu_read (Ok m) = pdu_of m.body
pdu_read (Err fault) = None

-- the PDU of the message that octets begin with, if they begin with one
abbrev pub pdu_in : List ℕ → Option Pdu
pdu_in octets = pdu_read (message_at octets)

-- octets of which this is the PDU, as a client prints it; octets without one in hex digits
abbrev pub named_text : List Definition → List ℕ → Option Pdu → List ℕ
named_text labels octets (Some p) = pdu_text labels p
named_text labels octets None = digits_line octets

-- octets that are sent: with names as a client prints what they spell, else in hex digits
abbrev pub sent_text : Option (Bor (List Definition)) → List ℕ → List ℕ
sent_text (Some labels) octets = named_text labels.now octets (pdu_in octets)
sent_text None octets = digits_line octets

-- What is printed for a reply: the octets that are sent, or why none are.
abbrev pub reply_text : Option (Bor (List Definition)) → Reply → List ℕ
reply_text labels (Send octets) = sent_text labels octets.items
reply_text labels (Silent cause) = silence_line cause
