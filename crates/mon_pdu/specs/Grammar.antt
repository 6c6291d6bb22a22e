-- Which octets spell a message (RFC 1901 section 3, RFC 3416 section 3, RFC 3417 section 8).
use Rattle.std.specs.Prelude.{◌≡◌, ◌≢◌, ◌<◌, ℕ, ℤ, pos, List, ◌∷◌, ◌++◌, All}
use Rattle.mon_ber.specs.declared.value.Value.TheVariants as values
use Rattle.mon_ber.specs.Grammar.{IsElement, Spells}
use Rattle.mon_ber.specs.Sequence.{AreSpelled}
use Rattle.mon_pdu.specs.declared.message.Binding.{Binding}
use Rattle.mon_pdu.specs.declared.message.Body.{Body}
use Rattle.mon_pdu.specs.declared.message.Body.TheVariants.{Pdu, Bulk}
use Rattle.mon_pdu.specs.declared.message.Message.{Message}
use Rattle.mon_pdu.specs.Kinds.{octet_of}

-- Octets are numbers below 256.
abbrev pub AreOctets : List ℕ → Type 0
AreOctets bytes = All (λ octet. octet < 256) bytes

-- A variable binding is a SEQUENCE of a name and a value, and of nothing else (RFC 3416 section 3,
-- VarBind).
pub record IsBinding (bytes : List ℕ) (b : Binding) : Type 0 where
  pub name : List ℕ
  pub value : List ℕ
  pub element : IsElement 0x30 (name ++ value) bytes
  pub spelled_name : Spells name (values.Name b.name)
  pub spelled_value : Spells value b.value

-- The tag of a PDU: its kind's, or GetBulk's (RFC 3416 section 3, PDUs). There are these eight and
-- no others.
abbrev pub tag_of : Body → ℕ
tag_of (Pdu p) = octet_of p.kind
tag_of (Bulk p) = 0xa5

-- A PDU begins with three INTEGERs: the request-id,
abbrev pub first_of : Body → ℤ
first_of (Pdu p) = p.request_id
first_of (Bulk p) = p.request_id

-- then the error-status, or the non-repeaters of a GetBulk,
abbrev pub second_of : Body → ℤ
second_of (Pdu p) = p.error_status
second_of (Bulk p) = p.non_repeaters

-- then the error-index, or the max-repetitions of a GetBulk (RFC 3416 section 3, PDU and BulkPDU).
abbrev pub third_of : Body → ℤ
third_of (Pdu p) = p.error_index
third_of (Bulk p) = p.max_repetitions

-- The variable bindings of a PDU.
abbrev pub bindings_of : Body → List Binding
bindings_of (Pdu p) = p.bindings
bindings_of (Bulk p) = p.bindings

-- A SEQUENCE of variable bindings, one after the other, and of nothing else (RFC 3416 section 3,
-- VarBindList).
pub record IsList (bytes : List ℕ) (bindings : List Binding) : Type 0 where
  pub contents : List ℕ
  pub element : IsElement 0x30 contents bytes
  pub each : AreSpelled IsBinding contents bindings

-- A PDU is an element with its tag, of three INTEGERs and the variable bindings, and of nothing
-- else (RFC 3416 section 3).
pub record IsBody (bytes : List ℕ) (body : Body) : Type 0 where
  pub first : List ℕ
  pub second : List ℕ
  pub third : List ℕ
  pub list : List ℕ
  pub element : IsElement (tag_of body) (first ++ (second ++ (third ++ list))) bytes
  pub spelled_first : Spells first (values.Integer (first_of body))
  pub spelled_second : Spells second (values.Integer (second_of body))
  pub spelled_third : Spells third (values.Integer (third_of body))
  pub spelled_list : IsList list (bindings_of body)

-- These octets, all of them, spell the message: a SEQUENCE of the version 1, the community and a
-- PDU (RFC 1901 section 3).
pub record IsMessage (bytes : List ℕ) (m : Message) : Type 0 where
  pub version : List ℕ
  pub community : List ℕ
  pub body : List ℕ
  pub element : IsElement 0x30 (version ++ (community ++ body)) bytes
  pub spelled_version : Spells version (values.Integer (pos 1))
  pub spelled_community : Spells community (values.Octets m.community)
  pub spelled_body : IsBody body m.body

-- The octets begin with a spelling of the message; what follows it is passed over.
pub record BeginsWithMessage (bytes : List ℕ) (m : Message) : Type 0 where
  pub text : List ℕ
  pub rest : List ℕ
  pub whole : bytes ≡ text ++ rest
  pub spelled : IsMessage text m

-- The octets begin with a SEQUENCE, all of it within them, whose contents begin with an INTEGER
-- that is this version.
pub record IsVersioned (bytes : List ℕ) (v : ℤ) : Type 0 where
  pub version : List ℕ
  pub others : List ℕ
  pub front : List ℕ
  pub rest : List ℕ
  pub whole : bytes ≡ front ++ rest
  pub element : IsElement 0x30 (version ++ others) front
  pub spelled : Spells version (values.Integer v)

-- The octets begin with a SEQUENCE whose contents begin with version 1, a community and an octet
-- that is the tag of no PDU.
pub record HasUnknownPdu (bytes : List ℕ) (t : ℕ) : Type 0 where
  pub version : List ℕ
  pub community : List ℕ
  pub others : List ℕ
  pub front : List ℕ
  pub rest : List ℕ
  pub text : List ℕ
  pub whole : bytes ≡ front ++ rest
  pub element : IsElement 0x30 (version ++ (community ++ (t ∷ others))) front
  pub spelled_version : Spells version (values.Integer (pos 1))
  pub spelled_community : Spells community (values.Octets text)
  pub unknown : (body : Body) → tag_of body ≢ t
