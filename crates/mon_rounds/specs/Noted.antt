-- What is reported of a round to an operator.
use Rattle.std.specs.Prelude.{ℕ, ◌-◌, ◌^◌, min, Bool, true, false, not, cond, List, [], ◌∷◌, ◌++◌}
use Rattle.std.specs.Prelude.{Option, Some, None, filter, length, map, sum_by}
use Rattle.std.specs.List.{flat_map, list_any}
use Rattle.mon_rounds.specs.Order.{RoundEvent}
use Rattle.mon_udp.specs.declared.addr.Addr.{Addr}
use Rattle.mon_udp.specs.Addr.{same_addr}
use Rattle.mon_rounds.specs.declared.reporting.Notice.{Notice}
use Rattle.mon_rounds.specs.declared.reporting.Notice.TheVariants as notice
use Rattle.mon_rounds.specs.Next.{stands_in}
use Rattle.mon_poller.specs.declared.fault.ResponseFault.TheVariants.{WrongSource}
use Rattle.mon_station.specs.declared.fault.StationFault.{StationFault}
use Rattle.mon_station.specs.declared.fault.StationFault.TheVariants.{Response}
use Rattle.mon_station.specs.declared.event.TargetStamp.{TargetStamp}
use Rattle.mon_station.specs.declared.running.Answer.{Answer}
use Rattle.mon_station.specs.declared.running.Answer.TheVariants as answer
use Rattle.mon_station.specs.declared.event.Event.TheVariants.{StartPoll, Timeout, FromAgent}
use Rattle.mon_station.specs.declared.event.Event.TheVariants.{FromPeer, Share, Save}

-- whether an event is a stranger's datagram: from an address that is no peer's and none of these
-- targets'
abbrev pub is_stranger : List Addr → RoundEvent → Bool
is_stranger targets (FromAgent from none) = not (stands_in targets from)
is_stranger targets (FromPeer from) = false
is_stranger targets (StartPoll target) = false
is_stranger targets (Timeout id) = false
is_stranger targets (Share peer) = false
is_stranger targets Save = false

-- how many of these events are datagrams of strangers, as far as 32 bits go
abbrev pub strangers_in : List Addr → List RoundEvent → ℕ
strangers_in targets events = min (length (filter (is_stranger targets) events)) (2 ^ 32 - 1)

-- the notice of a refused stranger's datagram: only of one that responds to an open poll
abbrev pub stranger_notice : Addr → StationFault → Option Notice
stranger_notice from (Response WrongSource) = Some (notice.Astray from)
stranger_notice from _ = None

-- the notice of a refused datagram that is no peer's
abbrev pub response_notice : List Addr → Addr → StationFault → Option Notice
response_notice targets from fault = cond (stands_in targets from)
    (Some (notice.BadResponse from fault)) (stranger_notice from fault)

-- the notice of a refused event. A timeout and a save are not refused: they run out of memory or
-- have the keeper's faults.
abbrev pub refusal_of : List Addr → RoundEvent → StationFault → Option Notice
refusal_of targets (StartPoll target) fault = Some (notice.NotPolled target fault)
refusal_of targets (FromAgent from none) fault = response_notice targets from fault
refusal_of targets (FromPeer from) fault = Some (notice.BadClaim from fault)
refusal_of targets (Share peer) fault = Some (notice.NotShared peer fault)
refusal_of targets (Timeout id) fault = None
refusal_of targets Save fault = None

-- the notice of an event with this answer, if there is one
abbrev pub notice_of : List Addr → RoundEvent → Answer → Option Notice
notice_of targets e (answer.Handled n answered) = None
notice_of targets e (answer.GaveUp target) = Some (notice.GaveUp target)
notice_of targets e answer.Memory = Some (notice.NoMemory e)
notice_of targets e (answer.Refused fault) = refusal_of targets e fault
notice_of targets e (answer.Keeper number) = Some (notice.NotSaved number)

-- what there is, as a list of one or none
abbrev pub listed : {A : Type 0} → Option A → List A
listed None = []
listed (Some told) = told ∷ []

-- the notice of an event with this answer, as a list
abbrev pub told_of : List Addr → RoundEvent → Answer → List Notice
told_of targets e a = listed (notice_of targets e a)

-- the notices of events with these answers, in order
abbrev pub notices_of : List Addr → List RoundEvent → List Answer → List Notice
notices_of targets [] answers = []
notices_of targets (e ∷ events) [] = []
notices_of targets (e ∷ events) (a ∷ answers) = told_of targets e a
    ++ notices_of targets events answers

-- how many samples were offered in an event that was answered so
abbrev pub samples_in : Answer → ℕ
samples_in (answer.Handled n answered) = n
samples_in (answer.GaveUp target) = 0
samples_in answer.Memory = 0
samples_in (answer.Refused fault) = 0
samples_in (answer.Keeper number) = 0

-- how many were offered in all, as far as 64 bits go
abbrev pub samples_taken : List Answer → ℕ
samples_taken answers = min (sum_by samples_in answers) (2 ^ 64 - 1)

-- whether a poll was given up
abbrev pub is_given_up : Notice → Bool
is_given_up (notice.GaveUp target) = true
is_given_up (notice.NotPolled target fault) = false
is_given_up (notice.BadResponse from fault) = false
is_given_up (notice.Astray from) = false
is_given_up (notice.BadClaim from fault) = false
is_given_up (notice.NotShared peer fault) = false
is_given_up (notice.NotSaved number) = false
is_given_up (notice.NoMemory event) = false

-- how many polls were given up
abbrev pub gave_up : List Notice → ℕ
gave_up notices = length (filter is_given_up notices)

-- ---- saves
-- whether an event is a save
abbrev pub is_save : RoundEvent → Bool
is_save Save = true
is_save (StartPoll target) = false
is_save (Timeout id) = false
is_save (FromAgent from none) = false
is_save (FromPeer from) = false
is_save (Share peer) = false

-- whether a notice says that a save failed: it met the keeper's fault, or memory was refused for it
abbrev pub is_unsaved : Notice → Bool
is_unsaved (notice.NotSaved number) = true
is_unsaved (notice.NoMemory event) = is_save event
is_unsaved (notice.GaveUp target) = false
is_unsaved (notice.NotPolled target fault) = false
is_unsaved (notice.BadResponse from fault) = false
is_unsaved (notice.Astray from) = false
is_unsaved (notice.BadClaim from fault) = false
is_unsaved (notice.NotShared peer fault) = false

-- how many saves failed
abbrev pub unsaved : List Notice → ℕ
unsaved notices = length (filter is_unsaved notices)

-- ---- targets that answered
-- the target whose poll an event with this answer answered, and the stamp of the response: none
-- where no response was taken
abbrev pub stamp_in : Answer → Option TargetStamp
stamp_in (answer.Handled n answered) = answered
stamp_in (answer.GaveUp target) = None
stamp_in answer.Memory = None
stamp_in (answer.Refused fault) = None
stamp_in (answer.Keeper number) = None

-- of each response that was taken, in order, the target whose poll it answered, and its stamp
abbrev pub answered_of : List Answer → List TargetStamp
answered_of answers = flat_map (λ a. listed (stamp_in a)) answers

-- ---- peers from which something came
-- whether an event is a datagram from this address, a peer's
abbrev pub is_from_peer : Addr → RoundEvent → Bool
is_from_peer address (FromPeer from) = same_addr from address
is_from_peer address (FromAgent from none) = false
is_from_peer address (StartPoll target) = false
is_from_peer address (Timeout id) = false
is_from_peer address (Share peer) = false
is_from_peer address Save = false

-- whether one of these events is a datagram from this address, a peer's
abbrev pub heard_from : Addr → List RoundEvent → Bool
heard_from address events = list_any (is_from_peer address) events

-- of each of these addresses of peers, whether a datagram came from it
abbrev pub heard_of : List Addr → List RoundEvent → List Bool
heard_of peers events = map (λ address. heard_from address events) peers
