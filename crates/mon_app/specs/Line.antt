-- What a line of hex digits says, by the grammar of messages and apart from any reader: what it
-- offers, or why it is refused.
use Rattle.std.specs.Prelude.{◌≡◌, ◌≢◌, ℕ, ℤ, pos, ◌≤◌, List, ◌∷◌, length, Result, Ok, Err}
use Rattle.hex.specs.Hex.{decode_of}
use Rattle.mon_ber.specs.declared.value.Value.TheVariants as values
use Rattle.mon_pdu.specs.declared.message.Binding.{Binding}
use Rattle.mon_pdu.specs.declared.message.Body.{Body}
use Rattle.mon_pdu.specs.declared.message.Body.TheVariants.{Pdu, Bulk}
use Rattle.mon_pdu.specs.declared.message.Message.{Message}
use Rattle.mon_pdu.specs.declared.message.PduKind.TheVariants.{Response}
use Rattle.mon_pdu.specs.Grammar.{BeginsWithMessage}
use Rattle.mon_app.specs.declared.refusal.Refusal.{Refusal}
use Rattle.mon_app.specs.declared.refusal.Refusal.TheVariants.{OutOfMemory, BadHex, BadMessage}
use Rattle.mon_app.specs.declared.refusal.Refusal.TheVariants.{NotAResponse, AgentError, BadStamp}
use Rattle.mon_app.specs.declared.refusal.Refusal.TheVariants.{TooManyInstances}
use Rattle.mon_poller.specs.Stamp.{Stamp, engine_id_name, engine_boots_name, engine_time_name}
use Rattle.mon_app.specs.Offer.{Offer}
use Rattle.mon_app.specs.Reading.{offers_of}

-- The text is pairs of hex digits, in either case, for octets that begin with a spelling of the
-- message.
pub record HoldsMessage (text : List ℕ) (m : Message) : Type 0 where
  pub bytes : List ℕ
  pub hex : decode_of text ≡ Ok bytes
  pub message : BeginsWithMessage bytes m

-- A Response-PDU with this error status and these bindings (RFC 3416 section 3).
abbrev pub IsResponse : Body → ℤ → List Binding → Type 0
IsResponse (Pdu p) status bindings = (p.kind ≡ Response) × (p.error_status ≡ status)
    × (p.bindings ≡ bindings)
IsResponse (Bulk b) status bindings = ⊥

-- The first three bindings are snmpEngineID.0, snmpEngineBoots.0 and snmpEngineTime.0 in their
-- ranges (RFC 3411 section 5), and then the others come.
pub record IsStamped (bindings : List Binding) (stamp : Stamp) (others : List Binding) : Type 0
  where
    pub first : Binding
    pub second : Binding
    pub third : Binding
    pub whole : bindings ≡ first ∷ second ∷ third ∷ others
    pub engine_named : first.name ≡ engine_id_name
    pub engine_is : first.value ≡ values.Octets stamp.engine
    pub engine_long : 5 ≤ length stamp.engine
    pub engine_short : length stamp.engine ≤ 32
    pub boots_named : second.name ≡ engine_boots_name
    pub boots_is : second.value ≡ values.Integer (pos stamp.boots)
    pub time_named : third.name ≡ engine_time_name
    pub time_is : third.value ≡ values.Integer (pos stamp.time)

-- The text is a stamped response without an error, and brings these samples.
pub record Brings (text : List ℕ) (offers : List Offer) : Type 0 where
  pub message : Message
  pub bindings : List Binding
  pub stamp : Stamp
  pub others : List Binding
  pub holds : HoldsMessage text message
  pub response : IsResponse message.body (pos 0) bindings
  pub stamped : IsStamped bindings stamp others
  pub samples : offers ≡ offers_of stamp others

-- The text is hex of octets that begin with no message.
pub record IsNoMessage (text : List ℕ) : Type 0 where
  pub bytes : List ℕ
  pub hex : decode_of text ≡ Ok bytes
  pub none : (m : Message) → BeginsWithMessage bytes m → ⊥

-- The text holds a message that is no response.
pub record IsNoResponse (text : List ℕ) : Type 0 where
  pub message : Message
  pub holds : HoldsMessage text message
  pub other : (status : ℤ) (bindings : List Binding) → IsResponse message.body status bindings → ⊥

-- The text holds a response with an error status.
pub record HasError (text : List ℕ) : Type 0 where
  pub message : Message
  pub status : ℤ
  pub bindings : List Binding
  pub holds : HoldsMessage text message
  pub response : IsResponse message.body status bindings
  pub failed : status ≢ pos 0

-- The text holds a response without an error whose first three bindings are no stamp.
pub record HasNoStamp (text : List ℕ) : Type 0 where
  pub message : Message
  pub bindings : List Binding
  pub holds : HoldsMessage text message
  pub response : IsResponse message.body (pos 0) bindings
  pub unstamped : (stamp : Stamp) (others : List Binding) → IsStamped bindings stamp others → ⊥

-- What a text that is not empty says by itself.
abbrev pub Says : List ℕ → Result (List Offer) Refusal → Type 0
Says text (Ok offers) = Brings text offers
Says text (Err OutOfMemory) = ⊥
Says text (Err BadHex) = (bytes : List ℕ) → decode_of text ≢ Ok bytes
Says text (Err BadMessage) = IsNoMessage text
Says text (Err NotAResponse) = IsNoResponse text
Says text (Err AgentError) = HasError text
Says text (Err BadStamp) = HasNoStamp text
Says text (Err TooManyInstances) = ⊥
