-- Messages by their frames.
use Rattle.std.specs.Prelude.{◌≡◌, ℕ, ℤ, pos, List, [], ◌∷◌, ◌++◌, length, Some, None, Result, Ok}
use Rattle.std.specs.Prelude.{Err, ◌==◌, if◌then◌else◌}
use Rattle.mon_ber.specs.declared.fault.BerFault.{BerFault}
use Rattle.mon_ber.specs.declared.fault.BerFault.TheVariants.{Truncated, BadTag, BadLength}
use Rattle.mon_ber.specs.declared.fault.BerFault.TheVariants.{OutOfRange}
use Rattle.mon_ber.specs.declared.value.Value.TheVariants.{Integer, Octets}
use Rattle.mon_ber.specs.Grammar.{IsElement, Spells}
use Rattle.mon_oid.specs.Steps.{◌>>=◌}
use Rattle.mon_ber.specs.Reading.{contents_at, element_at, integer_at}
use Rattle.mon_pdu.specs.declared.frame.AnyFrame.{AnyFrame}
use Rattle.mon_pdu.specs.declared.frame.BulkFrame.{BulkFrame}
use Rattle.mon_pdu.specs.declared.frame.Frame.{Frame}
use Rattle.mon_pdu.specs.declared.message.Binding.{Binding}
use Rattle.mon_pdu.specs.declared.message.Body.TheVariants.{Pdu, Bulk}
use Rattle.mon_pdu.specs.declared.message.Message.{Message}
use Rattle.mon_pdu.specs.declared.message.PduKind.{PduKind}
use Rattle.mon_pdu.specs.Kinds.{octet_of, kind_of}
use Rattle.mon_pdu.specs.Reading.{is_one}

-- the message of this frame and these variable bindings
abbrev pub framed : Frame → List Binding → Message
framed f bindings = record {
  community = f.community.now;
  body = Pdu (record {
    kind = f.kind;
    request_id = f.request_id;
    error_status = f.error_status;
    error_index = f.error_index;
    bindings = bindings;
  });
}

-- the GetBulk of this frame and these variable bindings
abbrev pub bulk_framed : BulkFrame → List Binding → Message
bulk_framed f bindings = record {
  community = f.community.now;
  body = Bulk (record {
    request_id = f.request_id;
    non_repeaters = f.non_repeaters;
    max_repetitions
        = f.max_repetitions;
    bindings = bindings;
  });
}

-- what a frame holds: the community, the kind, the three numbers and the octets of the variable
-- bindings
abbrev pub Held : Type 0
Held = List ℕ × PduKind × ℤ × ℤ × ℤ × List ℕ

-- what the frame of a GetBulk holds: the community, the three numbers and the octets of the
-- variable bindings
abbrev pub BulkHeld : Type 0
BulkHeld = List ℕ × ℤ × ℤ × ℤ × List ℕ

-- what the frame of any message holds: the community, the PDU's tag, the three numbers and the
-- octets of the variable bindings
abbrev pub AnyHeld : Type 0
AnyHeld = List ℕ × ℕ × ℤ × ℤ × ℤ × List ℕ

-- what this frame holds
abbrev pub held : Frame → Held
held f = (f.community.now, f.kind, f.request_id, f.error_status, f.error_index, f.list.now)

-- what this frame of a GetBulk holds
abbrev pub bulk_held : BulkFrame → BulkHeld
bulk_held f = (f.community.now, f.request_id, f.non_repeaters, f.max_repetitions, f.list.now)

-- what this frame of any message holds
abbrev pub any_held : AnyFrame → AnyHeld
any_held f = (f.community.now, f.tag, f.first, f.second, f.third, f.list.now)

-- A PDU except its variable bindings: an element with its tag, of the three INTEGERs and a SEQUENCE
-- of the octets that are held, whatever these spell, and of nothing else (RFC 3416 section 3).
pub record IsPduFrame (bytes : List ℕ) (h : AnyHeld) : Type 0 where
  pub first : List ℕ
  pub second : List ℕ
  pub third : List ℕ
  pub list : List ℕ
  pub element : IsElement h.1 (first ++ (second ++ (third ++ list))) bytes
  pub spelled_first : Spells first (Integer h.2)
  pub spelled_second : Spells second (Integer h.3)
  pub spelled_third : Spells third (Integer h.4)
  pub spelled_list : IsElement 0x30 h.5 list

-- A message except its variable bindings: a SEQUENCE of the version 1, the community and such a
-- PDU, and of nothing else (RFC 1901 section 3).
pub record IsFrame (bytes : List ℕ) (h : AnyHeld) : Type 0 where
  pub version : List ℕ
  pub community : List ℕ
  pub pdu : List ℕ
  pub element : IsElement 0x30 (version ++ (community ++ pdu)) bytes
  pub spelled_version : Spells version (Integer (pos 1))
  pub spelled_community : Spells community (Octets h.0)
  pub spelled_pdu : IsPduFrame pdu h

-- The octets begin with a message except its variable bindings, which holds this; what follows it
-- is passed over.
pub record BeginsWithAny (bytes : List ℕ) (h : AnyHeld) : Type 0 where
  pub text : List ℕ
  pub rest : List ℕ
  pub whole : bytes ≡ text ++ rest
  pub spelled : IsFrame text h

-- so they do, and its PDU is of this kind
abbrev pub BeginsWithFrame : List ℕ → Held → Type 0
BeginsWithFrame bytes h = BeginsWithAny bytes (h.0, octet_of h.1, h.2, h.3, h.4, h.5)

-- so they do, and its PDU is a GetBulk
abbrev pub BeginsWithBulkFrame : List ℕ → BulkHeld → Type 0
BeginsWithBulkFrame bytes h = BeginsWithAny bytes (h.0, 0xa5, h.1, h.2, h.3, h.4)

-- The numbers of a PDU and the octets of its variable bindings, from its contents.
unfoldable pub fields_of : List ℕ → Result (ℤ × ℤ × ℤ × List ℕ) BerFault
fields_of contents = do
  first ← integer_at contents
  second ← integer_at first.1
  third ← integer_at second.1
  list ← element_at 0x30 third.1
  if length list.1 == 0 then Ok (first.0, second.0, third.0, list.0) else Err BadLength

-- The octet that the octets begin with, and what follows it.
unfoldable pub octet_at : List ℕ → Result (ℕ × List ℕ) BerFault
octet_at [] = Err Truncated
octet_at (octet ∷ bs) = Ok (octet, bs)

-- What the frame of any message holds, from the contents of its SEQUENCE: the variable bindings are
-- not looked at.
unfoldable pub any_of : List ℕ → Result AnyHeld BerFault
any_of contents = do
  version ← integer_at contents
  if is_one version.0 then (
      element_at 0x04 version.1 >>= λ community.
      octet_at community.1 >>= λ tag.
      contents_at tag.1 >>= λ element.
      if length element.1 == 0 then (fields_of element.0 >>= λ f. Ok
      (community.0, tag.0, f.0, f.1, f.2, f.3)) else Err BadLength
      ) else Err OutOfRange

-- What the frame of the message holds that the octets begin with, whatever the tag of its PDU.
unfoldable pub any_at : List ℕ → Result AnyHeld BerFault
any_at bytes = do
  element ← element_at 0x30 bytes
  any_of element.0

-- What the frame of the message holds that the octets begin with, if it is of one of the kinds.
unfoldable pub frame_at : List ℕ → Result Held BerFault
frame_at bytes = do
  f ← any_at bytes
  elim (kind_of f.1) [ Some kind ↦ Ok (f.0, kind, f.2, f.3, f.4, f.5) | None ↦ Err BadTag ]

-- What the frame of the GetBulk holds that the octets begin with.
unfoldable pub bulk_frame_at : List ℕ → Result BulkHeld BerFault
bulk_frame_at bytes = do
  f ← any_at bytes
  if f.1 == 0xa5 then Ok (f.0, f.2, f.3, f.4, f.5) else Err BadTag
