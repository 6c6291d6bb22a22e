-- What asking comes to, sending by sending, and what happens at the wire meanwhile.
use Rattle.std.specs.Prelude.{◌≡◌, ℕ, zero, suc, ◌<◌, ◌≤◌, ◌^◌, List, [], ◌∷◌, ◌++◌, length, All}
use Rattle.std.specs.Prelude.{IsTrue, Option, Some, None, Result, Ok, Err, ◌⊎◌}
use Rattle.mon_pdu.specs.declared.message.Message.{Message}
use Rattle.mon_pdu.specs.Grammar.{BeginsWithMessage}
use Rattle.mon_pdu.specs.Writing.{written_message, message_contents}
use Rattle.mon_app.specs.declared.fault.AppFault.{AppFault}
use Rattle.mon_app.specs.declared.fault.AppFault.TheVariants.{OutOfMemory, Timeout, SocketFault}
use Rattle.mon_app.specs.declared.fault.AppFault.TheVariants.{BadText}
use Rattle.mon_client.specs.AtWire.{AtWire}
use Rattle.mon_client.specs.AtWire as wire
use Rattle.mon_client.specs.Question.{QuestionParts, is_reply, request_of}

-- a datagram that begins with this reply to the question
abbrev pub HoldsReply : QuestionParts → List ℕ → Message → Type 0
HoldsReply q octets m = BeginsWithMessage octets m × IsTrue (is_reply q m)

-- a datagram that begins with no reply to the question
abbrev pub HoldsNone : QuestionParts → List ℕ → Type 0
HoldsNone q octets = (m : Message) → ¬ (HoldsReply q octets m)

-- no reply to the question: a datagram that begins with none, or something else
abbrev pub IsStrange : QuestionParts → AtWire → Type 0
IsStrange q (wire.Heard octets) = HoldsNone q octets
IsStrange q wire.Other = Unit {0}
IsStrange q wire.Quiet = ⊥
IsStrange q (wire.Sent octets) = ⊥

-- at most 64 of them, and none is a reply
abbrev pub ArePassedOver : QuestionParts → List AtWire → Type 0
ArePassedOver q strange = All (IsStrange q) strange × (length strange ≤ 64)

-- a wait in which this reply was received
pub record HearsReply (q : QuestionParts) (m : Message) (heard : List AtWire) : Type 0 where
  pub strange : List AtWire
  pub passed_over : ArePassedOver q strange
  pub octets : List ℕ
  pub heard_is : heard ≡ strange ++ wire.Heard octets ∷ []
  pub reply : HoldsReply q octets m

-- a wait in which no reply was received: it came to its end, or 65 others were received
pub record HearsNone (q : QuestionParts) (heard : List AtWire) : Type 0 where
  pub strange : List AtWire
  pub none : All (IsStrange q) strange
  pub ended : ((length strange ≤ 64) × (heard ≡ strange ++ wire.Quiet ∷ []))
      ⊎ ((length strange ≡ 65) × (heard ≡ strange))

-- a wait in which no memory was left for the last datagram
pub record IsHeardInPart (q : QuestionParts) (heard : List AtWire) : Type 0 where
  pub strange : List AtWire
  pub passed_over : ArePassedOver q strange
  pub octets : List ℕ
  pub heard_is : heard ≡ strange ++ wire.Heard octets ∷ []

-- what a wait comes to: the reply, or none; or a fault
abbrev pub IsWait : QuestionParts → List AtWire → Result (Option Message) AppFault → Type 0
IsWait q heard (Ok (Some m)) = HearsReply q m heard
IsWait q heard (Ok None) = HearsNone q heard
IsWait q heard (Err (SocketFault reason)) = ArePassedOver q heard
IsWait q heard (Err OutOfMemory) = IsHeardInPart q heard
IsWait q heard (Err other) = ⊥

-- the octets that ask
abbrev pub request_octets : QuestionParts → List ℕ
request_octets q = written_message (request_of q)

-- this many sendings of the request, and after each a wait in which no reply was received
abbrev pub AreUnanswered : QuestionParts → ℕ → List AtWire → Type 0
AreUnanswered q zero log = log ≡ []
AreUnanswered q (suc n) log = (before : List AtWire) × (heard : List AtWire)
    × AreUnanswered q n before × HearsNone q heard
    × (log ≡ before ++ wire.Sent (request_octets q) ∷ heard)

-- the last of at most three sendings, whose wait comes to this; those before it were not answered
pub record EndsWith (q : QuestionParts) (log : List AtWire)
    (last : Result (Option Message) AppFault) : Type
    0 where
  pub sendings : ℕ
  pub few : sendings < 3
  pub before : List AtWire
  pub unanswered : AreUnanswered q sendings before
  pub heard : List AtWire
  pub wait : IsWait q heard last
  pub log_is : log ≡ before ++ wire.Sent (request_octets q) ∷ heard

-- fewer than three sendings that were not answered; another one failed
pub record IsCutShort (q : QuestionParts) (log : List AtWire) : Type 0 where
  pub sendings : ℕ
  pub few : sendings < 3
  pub unanswered : AreUnanswered q sendings log

-- What asking comes to, and what happened at the wire: the reply that was received in the last
-- wait; no reply in three waits; or a fault.
abbrev pub IsAsked : QuestionParts → List AtWire → Result Message AppFault → Type 0
IsAsked q log (Ok m) = EndsWith q log (Ok (Some m))
IsAsked q log (Err Timeout) = AreUnanswered q 3 log
IsAsked q log (Err (SocketFault reason)) = EndsWith q log (Err (SocketFault reason))
    ⊎ IsCutShort q log
IsAsked q log (Err OutOfMemory) = EndsWith q log (Err OutOfMemory) ⊎ IsCutShort q log
IsAsked q log (Err BadText) = (log ≡ []) × (2 ^ 32 ≤ length (message_contents (request_of q)))
IsAsked q log (Err other) = ⊥
