-- How rounds begin, and what every round has.
use Rattle.std.specs.Prelude.{ℕ, ◌≡◌, ◌≤◌, ◌+◌, ◌-◌, true, List, [], ◌∷◌, length}
use Rattle.mon_udp.specs.declared.addr.Addr.{Addr}
use Rattle.mon_rounds.specs.declared.receiver.Wait.TheVariants.{Begin}
use Rattle.mon_rounds.specs.declared.round.Phase.{Phase}
use Rattle.mon_rounds.specs.declared.round.Phase.TheVariants.{Polling, AwaitResponses, TimingOut}
use Rattle.mon_rounds.specs.declared.round.Phase.TheVariants.{Sharing, AwaitConfirmations}
use Rattle.mon_rounds.specs.declared.round.Phase.TheVariants.{BetweenRounds, Rested}
use Rattle.mon_rounds.specs.declared.round.Span.{Span}
use Rattle.mon_rounds.specs.declared.round.Span.TheVariants.{Round, Between}
use Rattle.mon_rounds.specs.Next.{RoundState, events_left, listens_to}
use Rattle.mon_rounds.specs.Order.{AreSoFar, datagrams_in}

-- before the first round: nothing is to come, and each round saves until it is said otherwise
abbrev pub unbegun : List Addr → List ℕ → List Addr → (wait_ms tries : ℕ) → RoundState
unbegun targets peers peer_addresses wait_ms tries = record {
  targets = targets;
  peers = peers;
  peer_addresses = peer_addresses;
  wait_ms = wait_ms;
  tries = tries;
  saves = true;
  saving = true;
  phase = Rested;
  wait = Begin wait_ms;
  datagrams = 4096;
  quiets = 0;
  timeouts = 0;
  failures = 0;
  events = [];
}

-- the phase in which a round over these targets begins, or the time between two
abbrev pub first_phase : Span → List Addr → Phase
first_phase Round [] = AwaitResponses
first_phase Round (t ∷ targets) = Polling 0
first_phase (Between milliseconds) targets = BetweenRounds

-- how long the first wait is: in a round as each of its waits, between two rounds the whole time
abbrev pub first_wait : Span → ℕ → ℕ
first_wait Round wait_ms = wait_ms
first_wait (Between milliseconds) wait_ms = milliseconds

-- a round that begins, or the time between two: of 4096 datagrams, as many idle waits with
-- timeouts as polls are tried, 512 timeouts and 16 failures at most; it saves if it was said of the
-- next round
abbrev pub begun : Span → RoundState → RoundState
begun span r = record r {
  saving = r.saves;
  phase = first_phase span r.targets;
  wait = Begin
      (first_wait span r.wait_ms);
  datagrams = 4096;
  quiets = r.tries;
  timeouts = 512;
  failures = 16;
  events = [];
}

-- how many waits begin at most: in a round one, one after each idle wait with timeouts, and one
-- after the shares with peers; between two rounds one
abbrev pub most_waits : Span → RoundState → ℕ
most_waits Round r = 1 + (r.tries + listens_to r.peers)
most_waits (Between milliseconds) r = 1

-- what every round has, with capacity for this many events: its events are in the order of a round
-- that saves or does not, with as many idle waits as are used up; it has at most 4096 datagrams
-- and knows how many are left, and there is capacity for all events that are still to come
pub record IsOrderly (room : ℕ) (r : RoundState) : Type 0 where
  pub order : AreSoFar (length r.targets) (r.tries - r.quiets) r.peers r.saving r.phase r.events
  pub quiets : r.quiets ≤ r.tries
  pub few : datagrams_in r.events + r.datagrams ≡ 4096
  pub space : length r.events + (events_left r.phase r + (r.datagrams + r.timeouts)) ≤ room
  pub whole : 4700 ≤ room

-- polls may be timed out
abbrev pub IsTiming : Phase → Type 0
IsTiming AwaitResponses = Unit {0}
IsTiming (TimingOut last) = Unit {0}
IsTiming phase = ⊥

-- the peer of this slot is offered next, or the round is done if there is no such peer
abbrev pub IsSharing : Phase → ℕ → Type 0
IsSharing AwaitResponses slot = slot ≡ 0
IsSharing (TimingOut last) slot = slot ≡ 0
IsSharing (Sharing next) slot = slot ≡ next
IsSharing phase slot = ⊥

-- the round is done: all is saved next, if it saves
abbrev pub IsSaving : Phase → List ℕ → Type 0
IsSaving AwaitResponses peers = peers ≡ []
IsSaving (TimingOut last) peers = peers ≡ []
IsSaving AwaitConfirmations peers = Unit {0}
IsSaving phase peers = ⊥
