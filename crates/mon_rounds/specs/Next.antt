-- What a round gives next, and what becomes of it.
use Rattle.std.specs.Prelude.{ℕ, zero, suc, ◌≡◌, ◌<◌, ◌+◌, ◌-◌, ◌⊎◌, Bool, true, false, is_some}
use Rattle.std.specs.Prelude.{◌&&◌, ◌||◌, nat_lt, cond, List, [], ◌∷◌, ◌++◌, Option, Some, None}
use Rattle.std.specs.Prelude.{Result, Ok, Err, length, option_map}
use Rattle.std.specs.List.{list_any}
use Rattle.mon_rounds.specs.Order.{RoundEvent}
use Rattle.mon_poller.specs.Fault.{response_number}
use Rattle.mon_poller.specs.Polls.{IsOldestAfter, Open}
use Rattle.mon_station.specs.ReadEvent.{OwnedEvent}
use Rattle.mon_station.specs.declared.fault.StationFault.{StationFault}
use Rattle.mon_station.specs.declared.fault.StationFault.TheVariants as fault
use Rattle.mon_station.specs.declared.running.Answer.{Answer}
use Rattle.mon_station.specs.declared.running.Answer.TheVariants.{Handled, GaveUp, Memory, Refused}
use Rattle.mon_station.specs.declared.running.Answer.TheVariants.{Keeper}
use Rattle.mon_station.specs.declared.event.Event.TheVariants.{StartPoll, Timeout, FromAgent}
use Rattle.mon_station.specs.declared.event.Event.TheVariants.{FromPeer, Share, Save}
use Rattle.mon_udp.specs.declared.addr.Addr.{Addr}
use Rattle.mon_udp.specs.Addr.{same_addr}
use Rattle.mon_rounds.specs.declared.receiver.Arrival.{Arrival}
use Rattle.mon_rounds.specs.declared.receiver.Arrival.TheVariants.{Datagram, Quiet}
use Rattle.mon_rounds.specs.declared.receiver.Wait.{Wait}
use Rattle.mon_rounds.specs.declared.receiver.Wait.TheVariants.{Begin, Renew, Rest}
use Rattle.mon_rounds.specs.declared.round.Phase.{Phase}
use Rattle.mon_rounds.specs.declared.round.Phase.TheVariants.{Polling, AwaitResponses, TimingOut}
use Rattle.mon_rounds.specs.declared.round.Phase.TheVariants.{Sharing, AwaitConfirmations, Over}
use Rattle.mon_rounds.specs.declared.round.Phase.TheVariants.{BetweenRounds, Rested}
use Rattle.mon_rounds.specs.Given.{with_octets}
use Rattle.mon_rounds.specs.Reception.{Reception, begins_of}
use Rattle.mon_station.specs.declared.running.SourceFault.{SourceFault}

-- What is known of a round: where targets and peers are reached, how long a wait is and how often a
-- poll is tried at most; whether the next round saves, and whether this one does; its phase and the
-- next wait, which is renewed if the last datagram was taken; how many datagrams, idle waits with
-- timeouts, timeouts and failures it may still have; and its events so far.
pub record RoundState : Type 0 where
  pub targets : List Addr
  pub peers : List ℕ
  pub peer_addresses : List Addr
  pub wait_ms : ℕ
  pub tries : ℕ
  pub saves : Bool
  pub saving : Bool
  pub phase : Phase
  pub wait : Wait
  pub datagrams : ℕ
  pub quiets : ℕ
  pub timeouts : ℕ
  pub failures : ℕ
  pub events : List RoundEvent

-- whether an address is one of these
abbrev pub stands_in : List Addr → Addr → Bool
stands_in addresses from = list_any (λ a. same_addr a from) addresses

-- ---- receptions
-- whether datagrams are received in a phase
abbrev pub is_hearing : Phase → Bool
is_hearing AwaitResponses = true
is_hearing AwaitConfirmations = true
is_hearing BetweenRounds = true
is_hearing (Polling target) = false
is_hearing (TimingOut last) = false
is_hearing (Sharing slot) = false
is_hearing Over = false
is_hearing Rested = false

-- whether a datagram must be received next
abbrev pub must_receive : RoundState → Bool
must_receive r = is_hearing r.phase && (nat_lt 0 r.datagrams && nat_lt 0 r.failures)

-- a response that is refused so ends its poll
abbrev pub ends_poll : StationFault → Bool
ends_poll (fault.Response f) = nat_lt 5 (response_number f)
ends_poll fault.OutOfMemory = false
ends_poll (fault.Keeper f) = false
ends_poll (fault.Poll f) = false
ends_poll (fault.Exchange f) = false
ends_poll (fault.Image f) = false
ends_poll fault.NoMoreIncarnations = false

-- a datagram with this answer was taken: it was handled, or ended its poll
abbrev pub is_taken : Option Answer → Bool
is_taken None = false
is_taken (Some (Handled samples answered)) = true
is_taken (Some (GaveUp target)) = false
is_taken (Some Memory) = false
is_taken (Some (Refused f)) = ends_poll f
is_taken (Some (Keeper number)) = false

-- the wait after a last event with this answer: only a datagram that was taken renews it
abbrev pub wait_due : Wait → Option Answer → Wait
wait_due (Begin milliseconds) last = Begin milliseconds
wait_due Renew last = cond (is_taken last) Renew Rest
wait_due Rest last = Rest

-- the wait in which a datagram must be received next, if one must be
abbrev pub next_wait : RoundState → Option Answer → Option Wait
next_wait r last = cond (must_receive r) (Some (wait_due r.wait last)) None

-- the wait after a datagram: between two rounds none is renewed
abbrev pub wait_in : Phase → Wait
wait_in BetweenRounds = Rest
wait_in phase = Renew

-- the event of a datagram from this address
abbrev pub event_from : RoundState → Addr → RoundEvent
event_from r from = cond (stands_in r.peer_addresses from) (FromPeer from) (FromAgent from tt)

-- after a datagram from this address
abbrev pub after_datagram : RoundState → Addr → RoundState
after_datagram r from = record r {
  wait = wait_in r.phase;
  datagrams = r.datagrams
      - 1;
  events = r.events ++ event_from r from ∷ [];
}

-- after a reception that failed
abbrev pub after_failure : RoundState → RoundState
after_failure r = record r { wait = Rest; failures = r.failures - 1 }

-- ---- when nothing more is received
-- a save, if the round saves
abbrev pub save_if : Bool → Option RoundEvent
save_if true = Some Save
save_if false = None

-- a share with the peer of this slot; if there is no such peer, a save, if the round saves
abbrev pub share_at : (saves : Bool) → List ℕ → ℕ → Option RoundEvent
share_at saves [] slot = save_if saves
share_at saves (p ∷ peers) zero = Some (Share p)
share_at saves (p ∷ peers) (suc slot) = share_at saves peers slot

-- ---- timeouts
-- the request-id after which the next poll is timed out
abbrev pub timed_out : Phase → ℕ
timed_out (TimingOut last) = last
timed_out phase = 0

-- whether there may be a timeout: after an idle wait only if it may still have any, and then of
-- each open poll
abbrev pub may_time_out : Phase → RoundState → Bool
may_time_out (TimingOut last) r = nat_lt 0 r.timeouts
may_time_out phase r = nat_lt 0 r.timeouts && nat_lt 0 r.quiets

-- the phase, if a further poll must be timed out; else the next wait follows
abbrev pub settled_phase : Phase → Bool → Phase
settled_phase (TimingOut last) more = cond more (TimingOut last) AwaitResponses
settled_phase phase more = phase

-- a round that knows which open poll is timed out next, if one is: where none is, the next wait
-- follows
abbrev pub settled : RoundState → Option ℕ → RoundState
settled r more = record r { phase = settled_phase r.phase (is_some more && nat_lt 0 r.timeouts) }

-- a timeout of the next open poll, where one is open and there may be a timeout; else the first
-- share, or what follows it if there are no peers
abbrev pub after_polls : RoundState → Option ℕ → Option RoundEvent
after_polls r None = share_at r.saving r.peers 0
after_polls r (Some id) = cond (may_time_out r.phase r) (Some (Timeout id))
    (share_at r.saving r.peers 0)

-- the event that a round gives in a phase, where it gives one
abbrev pub event_in_phase : Phase → RoundState → Option ℕ → Option RoundEvent
event_in_phase (Polling target) r oldest = Some (StartPoll target)
event_in_phase AwaitResponses r oldest = after_polls r oldest
event_in_phase (TimingOut last) r oldest = after_polls r oldest
event_in_phase (Sharing slot) r oldest = share_at r.saving r.peers slot
event_in_phase AwaitConfirmations r oldest = save_if r.saving
event_in_phase Over r oldest = None
event_in_phase BetweenRounds r oldest = None
event_in_phase Rested r oldest = None

-- the event that a round gives next, if it gives one: none where it is done and does not save
abbrev pub next_event : RoundState → Option ℕ → Option RoundEvent
next_event r oldest = event_in_phase r.phase r oldest

-- the slot of the peer that is offered next
abbrev pub slot_after : Phase → ℕ
slot_after (Sharing slot) = slot + 1
slot_after phase = 1

-- the phase after an event that is no datagram
abbrev pub phase_after : RoundState → RoundEvent → Phase
phase_after r (StartPoll target) = cond (nat_lt (target + 1) (length r.targets))
    (Polling (target + 1)) AwaitResponses
phase_after r (Share peer) = cond (nat_lt (slot_after r.phase) (length r.peers))
    (Sharing (slot_after r.phase)) AwaitConfirmations
phase_after r Save = Over
phase_after r (Timeout id) = TimingOut id
phase_after r (FromAgent from none) = r.phase
phase_after r (FromPeer from) = r.phase

-- how many timeouts there may be after an event
abbrev pub timeouts_after : ℕ → RoundEvent → ℕ
timeouts_after n (Timeout id) = n - 1
timeouts_after n e = n

-- how many idle waits with timeouts there may be after an event: the first timeout after one uses
-- it up
abbrev pub quiets_left : Phase → ℕ → ℕ
quiets_left (TimingOut last) n = n
quiets_left phase n = n - 1

-- how many waits that are idle with open polls may still come after an event
abbrev pub quiets_after : RoundState → RoundEvent → ℕ
quiets_after r (Timeout id) = quiets_left r.phase r.quiets
quiets_after r e = r.quiets

-- the phase after one that gives no event: the round, or the time between two, is over
abbrev pub phase_ended : Phase → Phase
phase_ended BetweenRounds = Rested
phase_ended Rested = Rested
phase_ended phase = Over

-- after the event that a round gave next, if it gave one; a wait that follows begins again
abbrev pub after_event : RoundState → Option RoundEvent → RoundState
after_event r None = record r { phase = phase_ended r.phase; wait = Begin r.wait_ms }
after_event r (Some e) = record r {
  phase = phase_after r e;
  wait = Begin r.wait_ms;
  quiets =
      quiets_after r e;
  timeouts = timeouts_after r.timeouts e;
  events = r.events ++ e ∷ [];
}

-- ---- one call for the next event
-- without a reception, or after one that brought nothing: the next event of the round
pub record Proceeds (r : RoundState) (oldest : Option ℕ) (result : Result (Option OwnedEvent)
    SourceFault) (new : RoundState) : Type 0 where
  pub event : result ≡ Ok (option_map (λ e. with_octets e []) (next_event r oldest))
  pub after : new ≡ after_event r (next_event r oldest)

-- a datagram is the next event
pub record HandsOn (r : RoundState) (from : Addr) (octets : List ℕ)
    (result : Result (Option OwnedEvent) SourceFault) (new : RoundState) : Type 0 where
  pub event : result ≡ Ok (Some (with_octets (event_from r from) octets))
  pub after : new ≡ after_datagram r from

-- a reception that failed is a fault
pub record Misses (r : RoundState) (result : Result (Option OwnedEvent) SourceFault)
    (new : RoundState) : Type 0 where
  pub fault : (f : SourceFault) × (result ≡ Err f)
  pub after : new ≡ after_failure r

-- what a reception leads to
abbrev pub LeadsTo : RoundState → Option ℕ → Option Arrival → Result (Option OwnedEvent) SourceFault
    → RoundState → Type 0
LeadsTo r oldest None result new = Misses r result new
LeadsTo r oldest (Some Quiet) result new = Proceeds r oldest result new
LeadsTo r oldest (Some (Datagram from octets)) result new = HandsOn r from octets result new

-- A call for the next event, with these receptions: one in the wait that was due, or none where
-- none was due.
abbrev pub Receives : RoundState → Option ℕ → Option Answer → List Reception
    → Result (Option OwnedEvent) SourceFault → RoundState → Type 0
Receives r oldest last [] result new = (next_wait r last ≡ None) × Proceeds r oldest result new
Receives r oldest last (one ∷ []) result new = (next_wait r last ≡ Some one.wait)
    × LeadsTo r oldest one.arrival result new
Receives r oldest last (one ∷ two ∷ more) result new = ⊥

-- A call for the next event, where these polls are open and the last event had this answer: if no
-- further poll must be timed out, the next wait follows in it.
pub record GivesNext (r : RoundState) (open_polls : Open) (last : Option Answer)
    (log : List Reception) (result : Result (Option OwnedEvent) SourceFault) (new : RoundState) :
    Type 0 where
  pub more : Option ℕ
  pub is_more : IsOldestAfter (timed_out r.phase) open_polls more
  pub oldest : Option ℕ
  pub is_oldest : IsOldestAfter (timed_out (settled r more).phase) open_polls oldest
  pub gives : Receives (settled r more) oldest last log result new

-- ---- how long a round is
-- how many events that are no datagrams and timeouts are still to come at most
abbrev pub events_left : Phase → RoundState → ℕ
events_left (Polling target) r = length r.targets - target + length r.peers + 1
events_left AwaitResponses r = length r.peers + 1
events_left (TimingOut last) r = length r.peers + 1
events_left (Sharing slot) r = length r.peers - slot + 1
events_left AwaitConfirmations r = 1
events_left Over r = 0
events_left BetweenRounds r = 1
events_left Rested r = 0

-- in how many calls for the next event a round is over at most
abbrev pub turns_left : RoundState → ℕ
turns_left r = events_left r.phase r + (r.datagrams + (r.timeouts + r.failures))

-- ---- how often a round waits
-- after the shares with peers it waits once
abbrev pub listens_to : List ℕ → ℕ
listens_to [] = 0
listens_to (p ∷ peers) = 1

-- how many waits may still begin
abbrev pub waits_left : Phase → RoundState → ℕ
waits_left (Polling target) r = 1 + (r.quiets + listens_to r.peers)
waits_left AwaitResponses r = begins_of r.wait + (r.quiets + listens_to r.peers)
waits_left (TimingOut last) r = 1 + (r.quiets + listens_to r.peers)
waits_left (Sharing slot) r = 1
waits_left AwaitConfirmations r = begins_of r.wait
waits_left Over r = 0
waits_left BetweenRounds r = begins_of r.wait
waits_left Rested r = 0

-- ---- how long a round is, after a call
-- a call that gave an event, or a fault, leaves fewer
abbrev pub TakesTurn : Result (Option OwnedEvent) SourceFault → ℕ → ℕ → Type 0
TakesTurn (Ok None) before now = Unit {0}
TakesTurn (Ok (Some event)) before now = now < before
TakesTurn (Err fault) before now = now < before

-- a round, or the time between two, is over
abbrev pub IsEnded : Phase → Type 0
IsEnded phase = (phase ≡ Over) ⊎ (phase ≡ Rested)
