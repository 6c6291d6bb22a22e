-- What an event sends and reports.
use Rattle.std.specs.Prelude.{ℕ, ◌≡◌, ◌+◌, List, [], ◌∷◌, Option, Some, None, Result, Ok, Err, map}
use Rattle.std.specs.Prelude.{slice_index_or}
use Rattle.std.specs.List.{AllByRecursion}
use Rattle.mon_board.specs.declared.instance.Instance.{Instance}
use Rattle.mon_board.specs.Instance.{instances_of, named}
use Rattle.mon_board.specs.Watch.{Watch}
use Rattle.mon_exchange.specs.declared.claim.Claim.{Claim}
use Rattle.mon_exchange.specs.declared.claim.ClaimKind.{ClaimKind}
use Rattle.mon_exchange.specs.declared.claim.ClaimKind.TheVariants.{Offer, Confirm}
use Rattle.mon_exchange.specs.declared.noted.Noted.{Noted}
use Rattle.mon_exchange.specs.declared.sharing.Portion.{Portion}
use Rattle.mon_exchange.specs.Claim.{IsClaim, claim_octets}
use Rattle.mon_exchange.specs.Peers.{noted_as}
use Rattle.mon_exchange.specs.Portions.{serial_after}
use Rattle.mon_poller.specs.declared.poller.TimedOut.{TimedOut}
use Rattle.mon_poller.specs.declared.poller.TimedOut.TheVariants.{Again, GivenUp, NotOpen}
use Rattle.mon_poller.specs.Target.{poll_octets, target_at}
use Rattle.mon_poller.specs.Verdict.{response_verdict, timeout_verdict}
use Rattle.mon_station.specs.declared.event.Outgoing.{Outgoing}
use Rattle.mon_station.specs.declared.event.TargetStamp.{TargetStamp}
use Rattle.mon_station.specs.declared.event.Told.{Told}
use Rattle.mon_station.specs.declared.event.To.TheVariants as to
use Rattle.mon_station.specs.declared.fault.StationFault.{StationFault}
use Rattle.mon_station.specs.ReadEvent.{ReadEvent, StartPoll, Timeout, FromAgent, FromPeer, Share}
use Rattle.mon_station.specs.State.{State, IsHandled, known_of, setting_of, shared_with}
use Rattle.mon_station.specs.Verdict.{offers, response_stamp}

-- ---- claims
-- the instance of this number in a watch
abbrev pub instance_at : Watch → ℕ → Instance
instance_at watch i = slice_index_or (instances_of watch.instances) i (named [] [])

-- a station's offer of a portion, with this serial
abbrev pub offer_of : State → ℕ → Portion → Claim
offer_of s serial p = record {
  kind = Offer;
  station = s.peers.own;
  incarnation = s.incarnation;
  serial = serial;
  engine = (instance_at s.board.watch p.instance).engine;
  name = (instance_at s.board.watch p.instance).name;
  samples = p.samples;
}

-- its offers of portions, with serials from this one on
abbrev pub offers_from : State → ℕ → List Portion → List Claim
offers_from s serial [] = []
offers_from s serial (p ∷ portions) = offer_of s serial p ∷ offers_from s (serial_after serial)
    portions

-- its confirmation of a claim: the same instance, serial and samples
abbrev pub confirm_of : State → Claim → Claim
confirm_of s c = record {
  kind = Confirm;
  station = s.peers.own;
  incarnation = s.incarnation;
  serial
      = c.serial;
  engine = c.engine;
  name = c.name;
  samples = c.samples;
}

-- what it answers to an accepted claim of this kind: an offer is confirmed
abbrev pub confirms : State → ClaimKind → Claim → List Claim
confirms s Offer c = confirm_of s c ∷ []
confirms s Confirm c = []

-- ---- datagrams
-- a claim on its way to a peer
abbrev pub to_peer : ℕ → Claim → Outgoing
to_peer y c = record { to = to.Peer y; octets = claim_octets c }

-- a poll's datagram on its way to its target
abbrev pub to_target : ℕ → List ℕ → Outgoing
to_target target octets = record { to = to.Target target; octets = octets }

-- what a timeout sends
abbrev pub resends : TimedOut → List Outgoing
resends (Again target octets) = to_target target octets ∷ []
resends (GivenUp target) = []
resends NotOpen = []

-- the claims that an event sends which is not refused
abbrev pub claims_sent : State → ReadEvent → List Claim
claims_sent s (FromPeer (Ok said)) = confirms s said.claim.kind said.claim
claims_sent s (Share y) = offers_from s s.serial (shared_with s y)
claims_sent s e = []

-- the datagrams that an event sends which is not refused
abbrev pub sends : State → ReadEvent → List Outgoing
sends s (StartPoll target) = to_target target (poll_octets (target_at s.poller.targets target)
    (s.poller.polls.started + 1)) ∷ []
sends s (Timeout id) = resends (timeout_verdict s.poller.targets s.poller.polls id)
sends s (FromPeer (Ok said)) = map (to_peer said.claim.station)
    (confirms s said.claim.kind said.claim)
sends s (Share y) = map (to_peer y) (offers_from s s.serial (shared_with s y))
sends s e = []

-- what became of the claim of an event that is not refused
abbrev pub noted_in : State → ReadEvent → Option Noted
noted_in s (FromPeer (Ok said)) = Some (noted_as (known_of s said.claim.station)
    said.claim.incarnation)
noted_in s e = None

-- the target that a timeout gives up, after its last try
abbrev pub given_up_by : TimedOut → Option ℕ
given_up_by (Again target octets) = None
given_up_by (GivenUp target) = Some target
given_up_by NotOpen = None

-- the target that gives up at an event
abbrev pub gave_up_in : State → ReadEvent → Option ℕ
gave_up_in s (Timeout id) = given_up_by (timeout_verdict s.poller.targets s.poller.polls id)
gave_up_in s e = None

-- the target whose poll a response answers, and the stamp that the response has: the open poll with
-- its request-id
abbrev pub answered_in : State → ReadEvent → Option TargetStamp
answered_in s (FromAgent from read) = response_stamp (response_verdict s.poller.targets
    s.poller.polls.open_polls from read)
answered_in s e = None

-- what is reported of an event that was handled
pub record IsTold (s : State) (e : ReadEvent) (told : Told) : Type 0 where
  pub taken : told.taken ≡ offers (setting_of s) s.poller.polls e
  pub sent : told.sends.items ≡ sends s e
  pub noted : told.noted ≡ noted_in s e
  pub given_up : told.given_up ≡ gave_up_in s e
  pub answered : told.answered ≡ answered_in s e
  -- what goes to peers spells claims
  pub claims : AllByRecursion IsClaim (claims_sent s e)

-- what a call answered to an event, and what it left
abbrev pub IsAnswered : State → State → ReadEvent → Result Told StationFault → Type 0
IsAnswered old new e (Ok told) = IsHandled e None old new × IsTold old e told
IsAnswered old new e (Err fault) = IsHandled e (Some fault) old new
