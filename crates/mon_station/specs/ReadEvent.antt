-- What a station is handed, and how its datagram reads.
use Rattle.std.specs.Borrow.{Bor}
use Rattle.std.specs.Prelude.{ℕ, ◌≡◌, List, Option, Some, None, Result, Ok, Err}
use Rattle.mon_board.specs.Watch.{Watch}
use Rattle.mon_exchange.specs.declared.claim.Claim.{Claim}
use Rattle.mon_exchange.specs.declared.fault.ExchangeFault.{ExchangeFault}
use Rattle.mon_exchange.specs.Claim.{SpellsClaim}
use Rattle.mon_exchange.specs.Peers.{IsWatchedAs}
use Rattle.mon_exchange.specs.Reading.{claim_at}
use Rattle.mon_pdu.specs.declared.message.Message.{Message}
use Rattle.mon_poller.specs.Verdict as responses
use Rattle.mon_station.specs.declared.event.Event.{Event}
pub use Rattle.mon_station.specs.declared.event.Event.TheVariants.{StartPoll, Timeout, FromAgent}
pub use Rattle.mon_station.specs.declared.event.Event.TheVariants.{FromPeer, Share, Save}

-- an event with something else of an agent's datagram, and of a peer's
abbrev pub map_event : {D P E Q : Type 0} → (D → E) → (P → Q) → Event D P → Event E Q
map_event f g (StartPoll target) = StartPoll target
map_event f g (Timeout id) = Timeout id
map_event f g (FromAgent from d) = FromAgent from (f d)
map_event f g (FromPeer p) = FromPeer (g p)
map_event f g (Share peer) = Share peer
map_event f g Save = Save

-- an event that borrows its datagram
abbrev pub LentEvent : Type 0
LentEvent = Event (Bor (List ℕ)) (Bor (List ℕ))

-- an event that has its own datagram
abbrev pub OwnedEvent : Type 0
OwnedEvent = Event (List ℕ) (List ℕ)

-- an event that borrows its datagram, as one that has its own
abbrev pub owned : LentEvent → OwnedEvent
owned e = map_event (λ octets. octets.now) (λ octets. octets.now) e

-- what a claim says in a watch: the claim, and the number of its instance where that is watched
pub record Said : Type 0 where
  pub claim : Claim
  pub number : Option ℕ

-- An event, its datagram as it reads: of an agent the message that it begins with, if it does; of a
-- peer the claim that it spells, or why it spells none.
abbrev pub ReadEvent : Type 0
ReadEvent = Event (Option Message) (Result Said ExchangeFault)

-- this is the number of the claim's instance, or it is not watched
abbrev pub IsNumbered : Watch → Claim → Option ℕ → Type 0
IsNumbered watch c None = (i : ℕ) → ¬ (IsWatchedAs watch c.engine c.name i)
IsNumbered watch c (Some i) = IsWatchedAs watch c.engine c.name i

-- what octets of a peer say in a watch, or why they are no claim
abbrev pub SaysAs : Watch → List ℕ → Result Said ExchangeFault → Type 0
SaysAs watch octets (Ok said) = SpellsClaim octets said.claim
    × IsNumbered watch said.claim said.number
SaysAs watch octets (Err fault) = (claim_at octets ≡ Err fault)
    × ((c : Claim) → ¬ (SpellsClaim octets c))

-- how an event reads in a watch
abbrev pub ReadsAs : Watch → OwnedEvent → ReadEvent → Type 0
ReadsAs watch (StartPoll target) e = e ≡ StartPoll target
ReadsAs watch (Timeout id) e = e ≡ Timeout id
ReadsAs watch (FromAgent from octets) e = (read : Option Message) × responses.ReadsAs octets read
    × (e ≡ FromAgent from read)
ReadsAs watch (FromPeer octets) e = (said : Result Said ExchangeFault) × SaysAs watch octets said
    × (e ≡ FromPeer said)
ReadsAs watch (Share peer) e = e ≡ Share peer
ReadsAs watch Save e = e ≡ Save
