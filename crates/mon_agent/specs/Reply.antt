-- Responses, and whether they are sent (RFC 3416 section 4.2).
use Rattle.std.specs.Prelude.{◌≡◌, ℕ, ◌<◌, ◌≤◌, ℤ, pos, negsuc, List, [], length, ◌⊎◌}
use Rattle.mon_pdu.specs.declared.message.Binding.{Binding}
use Rattle.mon_pdu.specs.declared.message.Body.{Body}
use Rattle.mon_pdu.specs.declared.message.Body.TheVariants.{Pdu}
use Rattle.mon_pdu.specs.declared.message.Message.{Message}
use Rattle.mon_pdu.specs.declared.message.PduKind.TheVariants.{Response}
use Rattle.mon_pdu.specs.Grammar.{first_of}
use Rattle.mon_pdu.specs.Writing.{written_message}
use Rattle.mon_agent.specs.declared.reply.Reply.{Reply}
use Rattle.mon_agent.specs.declared.reply.Reply.TheVariants.{Send, Silent}
use Rattle.mon_agent.specs.declared.reply.Silence.TheVariants.{TooBigTwice}

-- a number of a request or of the settings that counts; one below 0 is 0
abbrev pub count_of : ℤ → ℕ
count_of (pos n) = n
count_of (negsuc n) = 0

-- a Response of this request-id
abbrev pub response_body : ℤ → ℤ → ℤ → List Binding → Body
response_body request_id status index bindings =
    Pdu (record {
      kind = Response;
      request_id = request_id;
      error_status = status;
      error_index =
          index;
      bindings = bindings;
    })

-- the response to a message: in its community, with its request-id
abbrev pub response : Message → ℤ → ℤ → List Binding → Message
response m status index bindings = record {
  community = m.community;
  body = response_body
      (first_of m.body) status index bindings;
}

-- the response without an error
abbrev pub answered : Message → List Binding → Message
answered m bindings = response m (pos 0) (pos 0) bindings

-- the response that no response fits (tooBig)
abbrev pub too_big : Message → Message
too_big m = response m (pos 1) (pos 0) []

-- written, it is within the limit
abbrev pub IsWithinLimit : ℤ → Message → Type 0
IsWithinLimit max_message_size m = length (written_message m) ≤ count_of max_message_size

-- written, it is above the limit
abbrev pub IsAboveLimit : ℤ → Message → Type 0
IsAboveLimit max_message_size m = count_of max_message_size < length (written_message m)

-- this is sent
abbrev pub IsSending : Message → Reply → Type 0
IsSending m (Send octets) = octets.items ≡ written_message m
IsSending m (Silent cause) = ⊥

-- what is sent of a response: the response itself, or where it is above the limit tooBig without
-- variable bindings
abbrev pub IsSent : ℤ → Message → Message → List ℕ → Type 0
IsSent max_message_size request reply octets =
    (IsWithinLimit max_message_size reply × (octets ≡ written_message reply))
    ⊎ (IsAboveLimit max_message_size reply × IsWithinLimit max_message_size (too_big request)
    × (octets ≡ written_message (too_big request)))

-- nothing is sent where both are above the limit
abbrev pub IsDropped : ℤ → Message → Message → Type 0
IsDropped max_message_size request reply = IsAboveLimit max_message_size reply
    × IsAboveLimit max_message_size (too_big request)

-- What becomes of a response: it is sent, or it is dropped.
abbrev pub IsOut : ℤ → Message → Message → Reply → Type 0
IsOut max_message_size m reply (Send octets) = IsSent max_message_size m reply octets.items
IsOut max_message_size m reply (Silent TooBigTwice) = IsDropped max_message_size m reply
IsOut max_message_size m reply (Silent other) = ⊥
