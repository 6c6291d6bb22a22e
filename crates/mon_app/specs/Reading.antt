-- What a line offers, or why it is refused.
use Rattle.std.specs.Prelude.{ℕ, ℤ, pos, negsuc, List, [], ◌∷◌, length, Option, Some, None, Result}
use Rattle.std.specs.Prelude.{Ok, Err, nat_le, ◌==◌, ◌&&◌, if◌then◌else◌, Bool, false}
use Rattle.std.specs.List.{filter_map}
use Rattle.std.specs.Option.{option_map}
use Rattle.std.specs.Str.{bytes_eq}
use Rattle.hex.specs.Hex.{decode_of}
use Rattle.mon_pdu.specs.declared.message.Binding.{Binding}
use Rattle.mon_pdu.specs.declared.message.Body.{Body}
use Rattle.mon_pdu.specs.declared.message.Body.TheVariants.{Pdu, Bulk}
use Rattle.mon_pdu.specs.declared.message.Message.{Message}
use Rattle.mon_pdu.specs.declared.message.PduKind.TheVariants as pdu
use Rattle.mon_pdu.specs.Reading.{message_at}
use Rattle.mon_pdu.specs.Kinds.{octet_of}
use Rattle.mon_board.specs.Instance.{named}
use Rattle.mon_poller.specs.Stamp.{Stamp, engine_id_name, engine_boots_name, engine_time_name}
use Rattle.mon_poller.specs.Stamp.{stamp_of_values}
use Rattle.mon_poller.specs.Verdict.{sampled_at}
use Rattle.mon_app.specs.Offer.{Offer}
use Rattle.mon_app.specs.declared.refusal.Refusal.{Refusal}
use Rattle.mon_app.specs.declared.refusal.Refusal.TheVariants.{BadHex, BadMessage, NotAResponse}
use Rattle.mon_app.specs.declared.refusal.Refusal.TheVariants.{AgentError, BadStamp}
use Rattle.mon_oid.specs.Steps.{◌>>=◌}
use Rattle.mon_app.specs.Gives.{or_refuse}

-- three bindings have the names of a stamp
abbrev pub are_stamp_names : Binding → Binding → Binding → Bool
are_stamp_names first second third =
    bytes_eq first.name engine_id_name && (bytes_eq second.name engine_boots_name
    && bytes_eq third.name engine_time_name)

-- a stamp with an engine id, which has 5 to 32 octets
abbrev pub with_engine_id : Option Stamp → Result Stamp Refusal
with_engine_id (Some s) = if nat_le 5 (length s.engine) && nat_le (length s.engine) 32 then Ok s
    else Err BadStamp
with_engine_id None = Err BadStamp

-- whose response it is, and when it was made
unfoldable pub stamp_of : Binding → Binding → Binding → Result Stamp Refusal
stamp_of first second third =
    if are_stamp_names first second third then with_engine_id
    (stamp_of_values first.value second.value third.value) else Err BadStamp

-- the sample, with discontinuity 0, that a binding brings of the object that it names, if its value
-- is of a sampled kind
abbrev pub offer_in : Stamp → Binding → Option Offer
offer_in stamp b = option_map (λ s. record { instance = named stamp.engine b.name; sample = s })
    (sampled_at stamp b.value (Some 0))

-- the samples of all bindings after the stamp
unfoldable pub offers_of : Stamp → List Binding → List Offer
offers_of stamp bindings = filter_map (offer_in stamp) bindings

-- the stamp, and the bindings after it
unfoldable pub response_of : List Binding → Result (Stamp × List Binding) Refusal
response_of (first ∷ second ∷ third ∷ others) = do
  stamp ← stamp_of first second third
  Ok (stamp, others)
response_of _ = Err BadStamp

-- whether a status says that there was no error
abbrev pub is_zero : ℤ → Bool
is_zero (pos n) = n == 0
is_zero (negsuc n) = false

-- a response with status 0 whose first three bindings are the stamp
unfoldable pub body_reading : Body → Result (Stamp × List Binding) Refusal
body_reading (Bulk b) = Err NotAResponse
body_reading (Pdu p) =
    if octet_of p.kind == octet_of pdu.Response then
    (if is_zero p.error_status then response_of p.bindings else Err AgentError)
    else Err NotAResponse

-- the message that hex digits spell
unfoldable pub message_in : List ℕ → Result Message Refusal
message_in text = do
  bytes ← or_refuse BadHex (decode_of text)
  or_refuse BadMessage (message_at bytes)

-- what the message offers
unfoldable pub message_reading : Message → Result (List Offer) Refusal
message_reading message = do
  response ← body_reading message.body
  Ok (offers_of response.0 response.1)

-- what hex digits offer
unfoldable pub hex_reading : List ℕ → Result (List Offer) Refusal
hex_reading text = message_in text >>= message_reading

-- an empty line is neither accepted nor refused
unfoldable pub line_reading : List ℕ → Option (Result (List Offer) Refusal)
line_reading [] = None
line_reading (c ∷ cs) = Some (hex_reading (c ∷ cs))
