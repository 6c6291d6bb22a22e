-- The order of a round's events: each target is polled, what comes is received, each peer is
-- offered what it is owed, what comes is received, and all is saved, if the round saves. After a
-- wait that ran out with open polls each of them is timed out, by rising request-id, before the
-- next wait.
use Rattle.std.specs.Prelude.{ℕ, zero, suc, ◌≡◌, ◌≤◌, ◌<◌, Bool, true, false, List, [], ◌∷◌, ◌++◌}
use Rattle.std.specs.Prelude.{All, map, take, length, sum_by}
use Rattle.mon_rounds.specs.declared.round.Phase.{Phase}
use Rattle.mon_rounds.specs.declared.round.Phase.TheVariants.{Polling, AwaitResponses, TimingOut}
use Rattle.mon_rounds.specs.declared.round.Phase.TheVariants.{Sharing, AwaitConfirmations, Over}
use Rattle.mon_rounds.specs.declared.round.Phase.TheVariants.{BetweenRounds, Rested}
use Rattle.mon_station.specs.declared.event.Event.{Event}
use Rattle.mon_station.specs.declared.event.Event.TheVariants.{StartPoll, Timeout, FromAgent}
use Rattle.mon_station.specs.declared.event.Event.TheVariants.{FromPeer, Share, Save}
use Rattle.mon_udp.specs.declared.addr.Addr.{Addr}

-- an event of a round: its octets went with it, and of a datagram its address is known
abbrev pub RoundEvent : Type 0
RoundEvent = Event (Unit {0}) Addr

-- a poll of each of the first N targets, in order
abbrev pub polls_of : ℕ → List RoundEvent
polls_of zero = []
polls_of (suc n) = polls_of n ++ StartPoll n ∷ []

-- a share with each of these peers, in order
abbrev pub shares_with : List ℕ → List RoundEvent
shares_with peers = map Share peers

-- how many datagrams an event has
abbrev pub datagrams_of : RoundEvent → ℕ
datagrams_of (FromAgent from none) = 1
datagrams_of (FromPeer from) = 1
datagrams_of (StartPoll target) = 0
datagrams_of (Timeout id) = 0
datagrams_of (Share peer) = 0
datagrams_of Save = 0

-- how many datagrams came in these events
abbrev pub datagrams_in : List RoundEvent → ℕ
datagrams_in events = sum_by datagrams_of events

-- a datagram came
abbrev pub IsDatagram : RoundEvent → Type 0
IsDatagram e = datagrams_of e ≡ 1

-- ---- timeouts
-- these request-ids rise; they come after the first number, and the last of them is the second
abbrev pub AreRising : (after last : ℕ) → List ℕ → Type 0
AreRising after last [] = after ≡ last
AreRising after last (id ∷ ids) = (after < id) × AreRising id last ids

-- a timeout of each of these polls, in order
abbrev pub timeouts_of : List ℕ → List RoundEvent
timeouts_of ids = map Timeout ids

-- After an idle wait polls are timed out, up to this one: each once, by rising request-id.
pub record AreTimedOut (Earlier : List RoundEvent → Type 0) (last : ℕ) (events : List RoundEvent) :
    Type 0 where
  pub before : List RoundEvent
  pub earlier : Earlier before
  pub ids : List ℕ
  pub rise : AreRising 0 last ids
  pub are : events ≡ before ++ timeouts_of ids

-- after that datagrams came in the next wait
pub record AreHeardAfter (Earlier : List RoundEvent → Type 0) (events : List RoundEvent) : Type 0
  where
    pub before : List RoundEvent
    pub last : ℕ
    pub timed_out : AreTimedOut Earlier last before
    pub heard : List RoundEvent
    pub each : All IsDatagram heard
    pub are : events ≡ before ++ heard

-- What comes while polls are open, in waits of which this many were idle: datagrams in each wait,
-- and between two of them timeouts.
abbrev pub AreHeardIn : ℕ → List RoundEvent → Type 0
AreHeardIn zero events = All IsDatagram events
AreHeardIn (suc quiet) events = AreHeardAfter (AreHeardIn quiet) events

-- ---- a round
-- all targets are polled; then datagrams came, and timeouts after at most this many idle waits
pub record HasPolled (targets most : ℕ) (events : List RoundEvent) : Type 0 where
  pub quiet : ℕ
  pub few_quiet : quiet ≤ most
  pub heard : List RoundEvent
  pub each : AreHeardIn quiet heard
  pub are : events ≡ polls_of targets ++ heard

-- all targets are polled; then datagrams came, and timeouts after some idle waits, after the last
-- of which polls up to this one are timed out so far
pub record HasTimedOut (targets most last : ℕ) (events : List RoundEvent) : Type 0 where
  pub quiet : ℕ
  pub few_quiet : quiet < most
  pub heard : List RoundEvent
  pub each : AreTimedOut (AreHeardIn quiet) last heard
  pub are : events ≡ polls_of targets ++ heard

-- after that these peers were offered what they are owed
pub record HasShared (targets most : ℕ) (peers : List ℕ) (events : List RoundEvent) : Type 0 where
  pub before : List RoundEvent
  pub polled : HasPolled targets most before
  pub are : events ≡ before ++ shares_with peers

-- after that datagrams came
pub record HasListened (targets most : ℕ) (peers : List ℕ) (events : List RoundEvent) : Type 0 where
  pub before : List RoundEvent
  pub shared : HasShared targets most peers before
  pub heard : List RoundEvent
  pub each : All IsDatagram heard
  pub are : events ≡ before ++ heard

-- the last events of a round: a save, if it saves
abbrev pub saved_by : Bool → List RoundEvent
saved_by true = Save ∷ []
saved_by false = []

-- The events of a whole round: after that all was saved, if this round saves, and at most 4096
-- datagrams came. Polls were timed out after at most this many idle waits, each at most once after
-- each of them.
pub record IsRound (targets most : ℕ) (peers : List ℕ) (saves : Bool) (events : List RoundEvent) :
    Type 0 where
  pub before : List RoundEvent
  pub listened : HasListened targets most peers before
  pub are : events ≡ before ++ saved_by saves
  pub few : datagrams_in events ≤ 4096

-- the events of a round, which saves at its end or does not, or of the time between two, that is in
-- this phase, with timeouts after at most this many idle waits so far
abbrev pub AreSoFar : (targets most : ℕ) → List ℕ → (saves : Bool) → Phase → List RoundEvent
    → Type 0
AreSoFar targets most peers saves (Polling target) events = (target < targets)
    × (events ≡ polls_of target)
AreSoFar targets most peers saves AwaitResponses events = HasPolled targets most events
AreSoFar targets most peers saves (TimingOut last) events = HasTimedOut targets most last events
AreSoFar targets most peers saves (Sharing slot) events = (slot < length peers)
    × HasShared targets most (take slot peers) events
AreSoFar targets most peers saves AwaitConfirmations events = HasListened targets most peers events
AreSoFar targets most peers saves Over events = IsRound targets most peers saves events
AreSoFar targets most peers saves BetweenRounds events = All IsDatagram events
AreSoFar targets most peers saves Rested events = All IsDatagram events

-- ---- saves
-- how many saves an event is
abbrev pub saves_of : RoundEvent → ℕ
saves_of Save = 1
saves_of (StartPoll target) = 0
saves_of (Timeout id) = 0
saves_of (FromAgent from none) = 0
saves_of (FromPeer from) = 0
saves_of (Share peer) = 0

-- how many saves there are among these events
abbrev pub saves_in : List RoundEvent → ℕ
saves_in events = sum_by saves_of events

-- the last of these events is a save, and no other one is
pub record SavesAtTheEnd (events : List RoundEvent) : Type 0 where
  pub before : List RoundEvent
  pub are : events ≡ before ++ Save ∷ []
  pub none : saves_in before ≡ 0
