-- What a station answers to an event, what the event offers, and which polls are open after it.
use Rattle.std.specs.Prelude.{ℕ, ◌≡◌, Bool, true, false, List, [], ◌==◌, nat_lt, Option, Some, None}
use Rattle.std.specs.Prelude.{Result, Ok, Err}
use Rattle.std.specs.List.{position}
use Rattle.mon_board.specs.Watch.{Watch}
use Rattle.mon_board.specs.Windows.{paired}
use Rattle.mon_exchange.specs.declared.fault.ExchangeFault.TheVariants.{UnknownPeer}
use Rattle.mon_exchange.specs.declared.fault.ExchangeFault.TheVariants.{UnknownInstance}
use Rattle.mon_poller.specs.declared.fault.ResponseFault.{ResponseFault}
use Rattle.mon_poller.specs.declared.poller.Offered.{Offered}
use Rattle.mon_poller.specs.declared.target.Target.{Target}
use Rattle.mon_poller.specs.Fault.{response_number}
use Rattle.mon_poller.specs.Polls.{Polls, with_poll, timed}
use Rattle.mon_poller.specs.Verdict.{start_verdict, response_verdict, after_response, tries_of}
use Rattle.mon_station.specs.declared.event.TargetStamp.{TargetStamp}
use Rattle.mon_station.specs.declared.fault.StationFault.{StationFault}
use Rattle.mon_station.specs.declared.fault.StationFault.TheVariants as fault
use Rattle.mon_station.specs.ReadEvent.{ReadEvent, StartPoll, Timeout, FromAgent, FromPeer, Share}
use Rattle.mon_station.specs.ReadEvent.{Save}

-- what a station is set up with: its watch, its targets, its own number, and the numbers of its
-- peers
pub record Setting : Type 0 where
  pub watch : Watch
  pub targets : List Target
  pub own : ℕ
  pub peers : List ℕ

-- the slot of a station: its place among the peers
abbrev pub slot_of : List ℕ → ℕ → Option ℕ
slot_of peers station = position (λ number. number == station) peers

-- ---- answers: a fault, or none where the event was handled
-- the fault of a part, as the station's
abbrev pub fault_in : {A F : Type 0} → (F → StationFault) → Result A F → Option StationFault
fault_in as_fault (Ok x) = None
fault_in as_fault (Err f) = Some (as_fault f)

-- why a claim of the station in this slot, of the instance of this number, is refused
abbrev pub claim_fault : Option ℕ → Option ℕ → Option StationFault
claim_fault None number = Some (fault.Exchange UnknownPeer)
claim_fault (Some slot) None = Some (fault.Exchange UnknownInstance)
claim_fault (Some slot) (Some number) = None

-- why a share with the station in this slot is refused
abbrev pub share_fault : Option ℕ → Option StationFault
share_fault None = Some (fault.Exchange UnknownPeer)
share_fault (Some slot) = None

-- the first reason why an event is refused, or none; memory and the keeper aside
abbrev pub verdict : Setting → Polls → ReadEvent → Option StationFault
verdict w p (StartPoll target) = fault_in fault.Poll (start_verdict w.targets p target)
verdict w p (Timeout id) = None
verdict w p (FromAgent from read) = fault_in fault.Response (response_verdict w.targets p.open_polls
    from read)
verdict w p (FromPeer (Err f)) = Some (fault.Exchange f)
verdict w p (FromPeer (Ok said)) = claim_fault (slot_of w.peers said.claim.station) said.number
verdict w p (Share peer) = share_fault (slot_of w.peers peer)
verdict w p Save = None

-- the event is a save
abbrev pub IsSave : ReadEvent → Type 0
IsSave Save = Unit {0}
IsSave e = ⊥

-- the fault is the verdict, or out of memory, or at a save the keeper's
abbrev pub IsLawfulFault : Setting → Polls → ReadEvent → StationFault → Type 0
IsLawfulFault w p e fault.OutOfMemory = Unit {0}
IsLawfulFault w p e (fault.Keeper f) = IsSave e
IsLawfulFault w p e other = verdict w p e ≡ Some other

-- the answer is the verdict, or such a fault
abbrev pub IsLawful : Setting → Polls → ReadEvent → Option StationFault → Type 0
IsLawful w p e None = verdict w p e ≡ None
IsLawful w p e (Some f) = IsLawfulFault w p e f

-- ---- polls
-- a response with this answer ends its poll: it was accepted, or refused by number 6 to 9
abbrev pub ends_poll : Option StationFault → Bool
ends_poll None = true
ends_poll (Some (fault.Response f)) = nat_lt 5 (response_number f)
ends_poll (Some f) = false

-- the open polls after an event with this answer
abbrev pub polls_after : Setting → ReadEvent → Option StationFault → Polls → Polls
polls_after w (StartPoll target) None p = with_poll target p
polls_after w (Timeout id) None p = timed (tries_of w.targets) id p
polls_after w (FromAgent from read) answer p = after_response (ends_poll answer) read p
polls_after w e answer p = p

-- ---- offers: samples with the numbers of their instances
-- what an accepted response offers
abbrev pub response_pairs : Result Offered ResponseFault → List (ℕ × ℕ)
response_pairs (Ok o) = o.pairs
response_pairs (Err f) = []

-- whose poll an accepted response answered, and its stamp
abbrev pub stamp_in : Offered → TargetStamp
stamp_in o = record { target = o.target; boots = o.boots; time = o.time }

-- whose poll a response with this answer answered: a refused one answered none
abbrev pub response_stamp : Result Offered ResponseFault → Option TargetStamp
response_stamp (Ok o) = Some (stamp_in o)
response_stamp (Err f) = None

-- what a claim of the instance of this number offers
abbrev pub claim_pairs : Option ℕ → List ℕ → List (ℕ × ℕ)
claim_pairs None samples = []
claim_pairs (Some number) samples = paired number samples

-- what an event offers that is not refused
abbrev pub offers : Setting → Polls → ReadEvent → List (ℕ × ℕ)
offers w p (FromAgent from read) = response_pairs (response_verdict w.targets p.open_polls from
    read)
offers w p (FromPeer (Ok said)) = claim_pairs said.number said.claim.samples
offers w p e = []

-- what an event with this answer adds to what was taken
abbrev pub added : Setting → Polls → ReadEvent → Option StationFault → List (ℕ × ℕ)
added w p e None = offers w p e
added w p e (Some f) = []
