-- What an agent answers to a datagram, and what it does to its device (RFC 3416 section 4.2, RFC
-- 3413 section 3.2, RFC 3418 section 2).
use Rattle.std.specs.Prelude.{◌≡◌, ◌≢◌, ℕ, ℤ, pos, Bool, true, false, List, Option, Some, None}
use Rattle.std.specs.Prelude.{Result, Ok, Err, ◌⊎◌}
use Rattle.mon_pdu.specs.declared.message.Binding.{Binding}
use Rattle.mon_pdu.specs.declared.message.Body.{Body}
use Rattle.mon_pdu.specs.declared.message.Body.TheVariants as bodies
use Rattle.mon_pdu.specs.declared.message.Message.{Message}
use Rattle.mon_pdu.specs.declared.message.PduKind.{PduKind}
use Rattle.mon_pdu.specs.declared.message.PduKind.TheVariants as kinds
use Rattle.mon_pdu.specs.declared.fault.PduFault.{PduFault}
use Rattle.mon_pdu.specs.declared.fault.PduFault.TheVariants as faults
use Rattle.mon_pdu.specs.Grammar.{BeginsWithMessage, IsVersioned, bindings_of}
use Rattle.mon_vacm.specs.declared.denied.Denied.{Denied}
use Rattle.mon_vacm.specs.declared.denied.Denied.TheVariants.{NoCommunity}
use Rattle.mon_vacm.specs.declared.view_type.ViewType.{ViewType}
use Rattle.mon_vacm.specs.declared.view_type.ViewType.TheVariants.{Read, Write}
use Rattle.mon_vacm.specs.Access.{access_of}
use Rattle.mon_vacm.specs.Tables.{PolicyTables}
use Rattle.mon_vacm.specs.View.{IsInView}
use Rattle.mon_mib.specs.declared.counters.Counters.{Counters}
use Rattle.mon_mib.specs.declared.counters.Counter.TheVariants.{BadVersions, BadCommunities}
use Rattle.mon_mib.specs.declared.counters.Counter.TheVariants.{ParseErrors, SilentDrops}
use Rattle.mon_mib.specs.declared.change.Change.{Change}
use Rattle.mon_mib.specs.Counters.{counted}
use Rattle.mon_mib.specs.Held.{Held}
use Rattle.mon_mib.specs.Known.{Known}
use Rattle.mon_agent.specs.declared.reply.Reply.{Reply}
use Rattle.mon_agent.specs.declared.reply.Reply.TheVariants.{Send, Silent}
use Rattle.mon_agent.specs.declared.reply.Silence.{Silence}
use Rattle.mon_agent.specs.declared.reply.Silence.TheVariants.{BadMessage, BadVersion, BadCommunity}
use Rattle.mon_agent.specs.declared.reply.Silence.TheVariants.{NotARequest, TooBigTwice}
use Rattle.mon_agent.specs.Bulk.{IsBulk}
use Rattle.mon_agent.specs.Assigned.{IsSet}
use Rattle.mon_agent.specs.Reply.{response, answered, IsWithinLimit, IsOut}
use Rattle.mon_agent.specs.Step.{AreFor, IsGetAnswer, IsNextAnswer}

-- the PDUs that are answered
abbrev pub is_answered : PduKind → Bool
is_answered kinds.Get = true
is_answered kinds.GetNext = true
is_answered kinds.Set = true
is_answered other = false

-- a Get, GetNext, GetBulk or Set
abbrev pub is_request : Body → Bool
is_request (bodies.Pdu p) = is_answered p.kind
is_request (bodies.Bulk p) = true

-- what a request needs: a Set to write, the others to read
abbrev pub need_of_kind : PduKind → ViewType
need_of_kind kinds.Set = Write
need_of_kind other = Read

-- what the request of a body needs
abbrev pub need_of : Body → ViewType
need_of (bodies.Pdu p) = need_of_kind p.kind
need_of (bodies.Bulk p) = Read

-- the variable bindings that answer a Get or GetNext in a view
abbrev pub IsOfKind : Known → (List ℕ → Type 0) → PduKind → List Binding → List Binding → Type 0
IsOfKind k sees kinds.Get asked answers = AreFor (IsGetAnswer k sees) asked answers
IsOfKind k sees kinds.GetNext asked answers = AreFor (IsNextAnswer k sees) asked answers
IsOfKind k sees other asked answers = ⊥

-- the variable bindings that answer a request to read
abbrev pub AreAnswers : Known → (List ℕ → Type 0) → Message → Body → List Binding → Type 0
AreAnswers k sees m (bodies.Pdu p) answers = IsOfKind k sees p.kind p.bindings answers
AreAnswers k sees m (bodies.Bulk p) answers = IsBulk k sees (λ bindings. IsWithinLimit
    k.settings.max_message_size (answered m bindings)) p answers

-- the response without an error, with the variable bindings that answer a request to read
abbrev pub IsReading : Known → (List ℕ → Type 0) → Message → Message → Type 0
IsReading k sees m reply = (answers : List Binding) × AreAnswers k sees m m.body answers
    × (reply ≡ answered m answers)

-- the request's community is known
abbrev pub IsKnown : PolicyTables → Message → Type 0
IsKnown policy m = access_of policy m.community (need_of m.body) ≢ Err NoCommunity

-- why a message is not answered that is given this access
abbrev pub IsSilenceOf : Result (List ℕ) Denied → Body → Silence → Type 0
IsSilenceOf access body BadCommunity = access ≡ Err NoCommunity
IsSilenceOf access body NotARequest = (access ≢ Err NoCommunity) × (is_request body ≡ false)
IsSilenceOf access body other = ⊥

-- how devices of one kind hold, fail and refuse
module _ {D : Type 0} (held : D → Held) (failed : D → ℕ) (refuses : D → Change → Type 0) where
  -- the response to a request that is granted in a view, and the device then: reading leaves it as
  -- it was
  abbrev pub IsGranted : ViewType → Known → (List ℕ → Type 0) → D → D → Message → Message → Type 0
  IsGranted Read k sees before after m reply = (after ≡ before) × IsReading k sees m reply
  IsGranted Write k sees before after m reply = IsSet held failed refuses k sees before after m
      reply

  -- The response to a request of a known community. One that is denied gets its own variable
  -- bindings back with authorizationError; else the view that the community is granted is asked.
  abbrev pub IsResponseTo : PolicyTables → Known → D → D → Message → Message → Type 0
  IsResponseTo policy k before after m reply =
      ((why : Denied) × (why ≢ NoCommunity) × (access_of policy m.community (need_of m.body)
      ≡ Err why)
      × (after ≡ before) × (reply ≡ response m (pos 16) (pos 0) (bindings_of m.body)))
      ⊎ ((view : List ℕ) × (access_of policy m.community (need_of m.body) ≡ Ok view)
      × IsGranted (need_of m.body) k (IsInView policy.families view) before after m reply)

  -- What a message is answered. The community is tested first, then whether it is a request; a
  -- request gets its response.
  abbrev pub IsAnswered : PolicyTables → Known → D → D → Message → Reply → Type 0
  IsAnswered policy k before after m (Silent BadMessage) = ⊥
  IsAnswered policy k before after m (Silent BadVersion) = ⊥
  IsAnswered policy k before after m (Silent BadCommunity) =
      (access_of policy m.community (need_of m.body) ≡ Err NoCommunity) × (after ≡ before)
  IsAnswered policy k before after m (Silent NotARequest) = IsKnown policy m
      × (is_request m.body ≡ false) × (after ≡ before)
  IsAnswered policy k before after m other = IsKnown policy m × (is_request m.body ≡ true)
      × ((reply : Message) × IsResponseTo policy k before after m reply
      × IsOut k.settings.max_message_size m reply other)

  -- What a datagram is answered, by the message that it begins with. Where it begins with none, its
  -- version may be another than 1.
  abbrev pub IsAnswer : PolicyTables → Known → D → D → List ℕ → Reply → Type 0
  IsAnswer policy k before after datagram (Silent BadMessage) =
      ((m : Message) → BeginsWithMessage datagram m → ⊥) × ((v : ℤ) → IsVersioned datagram v
      → v ≡ pos 1) × (after ≡ before)
  IsAnswer policy k before after datagram (Silent BadVersion) = (v : ℤ) × IsVersioned datagram v
      × (v ≢ pos 1) × (after ≡ before)
  IsAnswer policy k before after datagram other = (m : Message) × BeginsWithMessage datagram m
      × IsAnswered policy k before after m other

-- the cause of silence about octets that could not be read; none where memory ran out
abbrev pub cause_of : PduFault → Option Silence
cause_of faults.OutOfMemory = None
cause_of (faults.BadVersion v) = Some BadVersion
cause_of other = Some BadMessage

-- the counters that a reply raises, after that of all messages (RFC 3418 section 2)
abbrev pub raised_by : Reply → Counters → Counters
raised_by (Send octets) counters = counters
raised_by (Silent BadMessage) counters = counted counters ParseErrors
raised_by (Silent BadVersion) counters = counted counters BadVersions
raised_by (Silent BadCommunity) counters = counted counters BadCommunities
raised_by (Silent NotARequest) counters = counters
raised_by (Silent TooBigTwice) counters = counted counters SilentDrops
