-- What a poll's start, a timeout and a response are answered.
use Rattle.std.specs.Prelude.{ℕ, ◌+◌, ℤ, pos, negsuc, Bool, true, false, nat_lt, nat_le, ◌==◌, ◌&&◌}
use Rattle.std.specs.Prelude.{if◌then◌else◌, List, [], ◌∷◌, ◌++◌, length, drop, Option, Some, None}
use Rattle.std.specs.Prelude.{Result, Ok, Err}
use Rattle.std.specs.FinMap as finmap
use Rattle.std.specs.Option.{option_map, option_and_then, option_to_list}
use Rattle.std.specs.Str.{bytes_eq}
use Rattle.mon_ber.specs.declared.value.Value.{Value}
use Rattle.mon_pdu.specs.declared.message.Binding.{Binding}
use Rattle.mon_pdu.specs.declared.message.Body.{Body}
use Rattle.mon_pdu.specs.declared.message.Body.TheVariants.{Pdu, Bulk}
use Rattle.mon_pdu.specs.declared.message.Message.{Message}
use Rattle.mon_pdu.specs.declared.message.PduKind.TheVariants as kinds
use Rattle.mon_pdu.specs.declared.message.Pdu.{Pdu as AnyPdu}
use Rattle.mon_pdu.specs.Grammar.{BeginsWithMessage}
use Rattle.mon_pdu.specs.Kinds.{octet_of}
use Rattle.mon_sample.specs.Key.{key}
use Rattle.mon_sample.specs.Kind.{kind_tag}
use Rattle.mon_udp.specs.declared.addr.Addr.{Addr}
use Rattle.mon_udp.specs.Addr.{same_addr}
use Rattle.mon_poller.specs.declared.fault.PollFault.{PollFault}
use Rattle.mon_poller.specs.declared.fault.PollFault.TheVariants as faults
use Rattle.mon_poller.specs.declared.fault.ResponseFault.{ResponseFault}
use Rattle.mon_poller.specs.declared.fault.ResponseFault.TheVariants.{
  BadMessage,
  Stray,
  WrongSource,
  WrongCommunity,
  AgentError,
  WrongNames,
  BadStamp,
  OtherEngine,
}
use Rattle.mon_poller.specs.declared.poller.Offered.{Offered}
use Rattle.mon_poller.specs.declared.poller.TimedOut.{TimedOut}
use Rattle.mon_poller.specs.declared.poller.TimedOut.TheVariants.{Again, GivenUp, NotOpen}
use Rattle.mon_poller.specs.declared.target.Object.{Object}
use Rattle.mon_poller.specs.declared.target.Target.{Target}
use Rattle.mon_poller.specs.Fault.{response_number}
use Rattle.mon_oid.specs.Steps.{◌>>=◌}
use Rattle.mon_poller.specs.Gives.{or_refuse, need}
use Rattle.mon_poller.specs.Polls.{Poll, Open, Polls, poll_of, closed_by}
use Rattle.mon_poller.specs.Stamp.{Stamp, stamp_of_values, sampled, discontinuity_in}
use Rattle.mon_poller.specs.Target.{poll_names, poll_octets, target_at}

-- the request-id under which a poll starts, or the first reason why it does not
abbrev pub start_verdict : List Target → Polls → ℕ → Result ℕ PollFault
start_verdict targets p target =
    if nat_le (length targets) target then Err faults.UnknownTarget
    else (if nat_le 64 (finmap.len p.open_polls) then Err faults.TooManyOpen
    else (if p.started == 2147483647 then Err faults.NoMoreIds
    else Ok (p.started + 1)))

-- ---- responses
-- how a datagram reads: as the message that it begins with, or as none
abbrev pub ReadsAs : List ℕ → Option Message → Type 0
ReadsAs octets (Some m) = BeginsWithMessage octets m
ReadsAs octets None = (m : Message) → ¬ (BeginsWithMessage octets m)

-- the Response that a PDU is
abbrev pub response_pdu : Body → Option AnyPdu
response_pdu (Bulk b) = None
response_pdu (Pdu p) = if octet_of p.kind == octet_of kinds.Response then Some p else None

-- a Response with error-status 0 (noError)
abbrev pub no_error : ℤ → ℤ → Result (Unit {0}) ResponseFault
no_error (pos status) index = if status == 0 then Ok tt else Err (AgentError (pos status) index)
no_error (negsuc n) index = Err (AgentError (negsuc n) index)

-- whether the bindings have these names, in their order
abbrev pub have_names : List (List ℕ) → List Binding → Bool
have_names [] [] = true
have_names [] (b ∷ bs) = false
have_names (n ∷ ns) [] = false
have_names (n ∷ ns) (b ∷ bs) = bytes_eq n b.name && have_names ns bs

-- bindings, if there are some, have these names in their order
abbrev pub have_after : List (List ℕ) → Option (List Binding) → Bool
have_after names None = false
have_after names (Some bindings) = have_names names bindings

-- the stamp at the front of the bindings, and the others
unfoldable pub stamp_and_others : List Binding → Result (Stamp × List Binding) ResponseFault
stamp_and_others (first ∷ second ∷ third ∷ others) = do
  stamp ← or_refuse BadStamp (stamp_of_values first.value second.value third.value)
  Ok (stamp, others)
stamp_and_others _ = Err BadStamp

-- the value of an object's discontinuity, in the second of its bindings; 0 where it has none
abbrev pub discontinuity_value : Option (List ℕ) → List Binding → Option ℕ
discontinuity_value None bindings = Some 0
discontinuity_value (Some name) (b ∷ c ∷ bs) = discontinuity_in c.value
discontinuity_value (Some name) _ = None

-- how many bindings answer an object with this discontinuity
abbrev pub bindings_for : Option (List ℕ) → ℕ
bindings_for None = 1
bindings_for (Some name) = 2

-- the sample of this value and this discontinuity, if the value is of a sampled kind and the
-- discontinuity is there
abbrev pub sampled_at : Stamp → Value → Option ℕ → Option ℕ
sampled_at stamp value discontinuity = option_and_then (λ v. option_map
    (λ m. key stamp.boots stamp.time m (kind_tag v.0) v.1) discontinuity) (sampled value)

-- the sample of an object whose bindings come first, if its value is of a sampled kind and its
-- discontinuity, if it has one, of that kind
unfoldable pub sample_of : Stamp → Object → List Binding → Option ℕ
sample_of stamp o [] = None
sample_of stamp o (b ∷ bs) = sampled_at stamp b.value (discontinuity_value o.discontinuity (b ∷ bs))

-- what the bindings offer of the objects, in their order
unfoldable pub object_offers : Stamp → List Object → List Binding → List (ℕ × ℕ)
object_offers stamp [] bindings = []
object_offers stamp (o ∷ os) bindings = option_to_list (option_map (λ s. (o.instance, s))
    (sample_of stamp o bindings)) ++ object_offers stamp os (drop (bindings_for o.discontinuity)
    bindings)

-- what bindings with the names of a poll offer of its target, which has this number: their stamp
-- must be its engine's
unfoldable pub target_offers : ℕ → Target → List Binding → Result Offered ResponseFault
target_offers number t bindings = do
  stamp ← stamp_and_others bindings
  known ← need OtherEngine (bytes_eq stamp.0.engine t.engine)
  Ok (record {
    target = number;
    boots = stamp.0.boots;
    time = stamp.0.time;
    pairs = object_offers
        stamp.0 t.objects stamp.1;
  })

-- what a response offers of a target that it came from, which has this number, or the first reason
-- why it offers nothing
unfoldable pub poll_answer : ℕ → Target → AnyPdu → Result Offered ResponseFault
poll_answer number t r = do
  fine ← no_error r.error_status r.error_index
  named ← need WrongNames (have_names (poll_names t) r.bindings)
  target_offers number t r.bindings

-- the open poll that a datagram responds to, and the Response, or the first reason why it responds
-- to none
unfoldable pub awaited : List Target → Open → Addr → Option Message
    → Result (Poll × AnyPdu) ResponseFault
awaited targets polls from read = do
  m ← or_refuse BadMessage read
  r ← or_refuse BadMessage (response_pdu m.body)
  poll ← or_refuse Stray (poll_of polls r.request_id)
  source ← need WrongSource (same_addr from (target_at targets poll.target).address)
  community ← need WrongCommunity (bytes_eq m.community (target_at targets poll.target).community)
  Ok (poll, r)

-- what is answered to a datagram: the first refusal that holds, or what it offers of its poll's
-- target
unfoldable pub response_verdict : List Target → Open → Addr → Option Message
    → Result Offered ResponseFault
response_verdict targets polls from read = do
  found ← awaited targets polls from read
  poll_answer found.0.target (target_at targets found.0.target) found.1

-- a response with this answer ends its poll: it was accepted, or refused by number 6 to 9
abbrev pub ends : {A : Type 0} → Result A ResponseFault → Bool
ends (Ok x) = true
ends (Err e) = nat_lt 5 (response_number e)

-- the request-id of the Response that a datagram reads as
abbrev pub id_of : Option Message → Option ℤ
id_of read = option_map (λ r. r.request_id) (option_and_then (λ m. response_pdu m.body) read)

-- the polls after a datagram, by whether its answer ends the poll
abbrev pub after_response : Bool → Option Message → Polls → Polls
after_response false read p = p
after_response true read p = closed_by (id_of read) p

-- ---- timeouts
-- how often a target is tried, by its number
abbrev pub tries_of : List Target → ℕ → ℕ
tries_of targets i = (target_at targets i).tries

-- what is answered to a timeout of this poll of the target
abbrev pub timeout_of : Target → ℕ → Poll → TimedOut
timeout_of t id poll = if nat_lt poll.sends t.tries then Again poll.target (poll_octets t id)
    else GivenUp poll.target

-- what a timeout of the open poll does, if there is one
abbrev pub timeout_at : List Target → ℕ → Option Poll → TimedOut
timeout_at targets id None = NotOpen
timeout_at targets id (Some poll) = timeout_of (target_at targets poll.target) id poll

-- what is answered to a timeout of this request-id: the poll's datagram again, the last try is
-- over, or no such poll
abbrev pub timeout_verdict : List Target → Polls → ℕ → TimedOut
timeout_verdict targets p id = timeout_at targets id (finmap.get p.open_polls id)

-- a datagram is sent again
abbrev pub IsSentAgain : TimedOut → Type 0
IsSentAgain (Again target octets) = Unit {0}
IsSentAgain (GivenUp target) = ⊥
IsSentAgain NotOpen = ⊥
