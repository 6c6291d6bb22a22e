-- What a run of a station did, call by call.
use Rattle.std.specs.Prelude.{ℕ, zero, suc, ◌≡◌, ◌≤◌, ◌<◌, ◌+◌, ◌-◌, ◌^◌, ◌⊎◌, ◌||◌, Bool, true}
use Rattle.std.specs.Prelude.{false, List, [], ◌∷◌, ◌++◌, length, Option, Some, None, Result, Ok}
use Rattle.std.specs.Prelude.{Err}
use Rattle.mon_board.specs.Watch.{Watch}
use Rattle.mon_disk.specs.declared.disk.Disk.{Ghosts}
use Rattle.mon_disk.specs.declared.fault.KeeperFault.TheVariants as keeper
use Rattle.mon_disk.specs.Disk.{Leaves, LeavesSince}
use Rattle.mon_disk.specs.Fault as keeping
use Rattle.mon_disk.specs.File.{found}
use Rattle.mon_disk.specs.Keeper.{FindsAs, found_generation}
use Rattle.mon_disk.specs.declared.file.TheConstants.{SLOT_SIZE}
use Rattle.mon_udp.specs.Counts.{next_count}
use Rattle.mon_udp.specs.Told.{extended}
use Rattle.mon_poller.specs.Polls.{Open}
use Rattle.mon_station.specs.declared.event.Outgoing.{Outgoing}
use Rattle.mon_station.specs.declared.event.TargetStamp.{TargetStamp}
use Rattle.mon_station.specs.declared.fault.StationFault.{StationFault}
use Rattle.mon_station.specs.declared.fault.StationFault.TheVariants as fault
use Rattle.mon_station.specs.declared.running.Answer.{Answer}
use Rattle.mon_station.specs.declared.running.Answer.TheVariants.{Handled, GaveUp, Memory, Refused}
use Rattle.mon_station.specs.declared.running.Answer.TheVariants.{Keeper}
use Rattle.mon_station.specs.declared.running.Run.{Run}
use Rattle.mon_station.specs.declared.running.SourceFault.{SourceFault}
use Rattle.mon_station.specs.Lived.{IsLived, last_state}
use Rattle.mon_station.specs.ReadEvent.{ReadEvent, ReadsAs, OwnedEvent, Save}
use Rattle.mon_station.specs.Saved.{FindsState, IsSaveFault}
use Rattle.mon_station.specs.Seen.{Seen, met}
use Rattle.mon_station.specs.State.{State, IsHandled, setting_of}
use Rattle.mon_station.specs.Taken.{Entry, Answered}
use Rattle.mon_station.specs.Told.{answered_in, gave_up_in, sends}
use Rattle.mon_station.specs.Verdict.{added}

-- ---- answers
-- an answer as a run shows it, where these samples were offered, this target gave up and this one's
-- poll was answered
abbrev pub shown : Option StationFault → List (ℕ × ℕ) → Option ℕ → Option TargetStamp → Answer
shown None taken None answered = Handled (length taken) answered
shown None taken (Some target) answered = GaveUp target
shown (Some fault.OutOfMemory) taken given_up answered = Memory
shown (Some (fault.Keeper f)) taken given_up answered = Keeper (keeping.number_of f)
shown (Some (fault.Poll f)) taken given_up answered = Refused (fault.Poll f)
shown (Some (fault.Response f)) taken given_up answered = Refused (fault.Response f)
shown (Some (fault.Exchange f)) taken given_up answered = Refused (fault.Exchange f)
shown (Some (fault.Image f)) taken given_up answered = Refused (fault.Image f)
shown (Some fault.NoMoreIncarnations) taken given_up answered = Refused fault.NoMoreIncarnations

-- how many answers are faults
abbrev pub faults_in : List Answer → ℕ
faults_in [] = 0
faults_in (Handled n answered ∷ answers) = faults_in answers
faults_in (GaveUp target ∷ answers) = faults_in answers
faults_in (Memory ∷ answers) = faults_in answers + 1
faults_in (Refused f ∷ answers) = faults_in answers + 1
faults_in (Keeper number ∷ answers) = faults_in answers + 1

-- ---- turns, the newest first
-- One event: how it reads, if that is known; its answer; the samples that it offered, by the
-- numbers of their instances; the target that gave up; the target whose poll was answered, and the
-- stamp; what the outbox was given; and the state that was left.
pub record Turn : Type 0 where
  pub event : OwnedEvent
  pub reading : Option ReadEvent
  pub answer : Option StationFault
  pub taken : List (ℕ × ℕ)
  pub given_up : Option ℕ
  pub answered : Option TargetStamp
  pub sent : List Outgoing
  pub after : State

-- the state that turns left
abbrev pub state_after : State → List Turn → State
state_after first [] = first
state_after first (t ∷ turns) = t.after

-- what they were given, in order
abbrev pub events_of : List Turn → List OwnedEvent
events_of [] = []
events_of (t ∷ turns) = events_of turns ++ t.event ∷ []

-- what they answered, in order
abbrev pub answers_of : List Turn → List Answer
answers_of [] = []
answers_of (t ∷ turns) = answers_of turns ++ shown t.answer t.taken t.given_up t.answered ∷ []

-- what they handed to the outbox, in order
abbrev pub sent_of : List Turn → List Outgoing
sent_of [] = []
sent_of (t ∷ turns) = sent_of turns ++ t.sent

-- what an event with this answer sends
abbrev pub sent_by : State → ReadEvent → Option StationFault → List Outgoing
sent_by s e None = sends s e
sent_by s e (Some f) = []

-- the samples that are taken of an event with this answer
abbrev pub taken_of : State → ReadEvent → Option StationFault → List (ℕ × ℕ)
taken_of s e answer = added (setting_of s) s.poller.polls e answer

-- the target that gave up at an event with this answer
abbrev pub given_up_of : State → ReadEvent → Option StationFault → Option ℕ
given_up_of s e None = gave_up_in s e
given_up_of s e (Some f) = None

-- the target whose poll an event with this answer answered, and the stamp
abbrev pub answered_of : State → ReadEvent → Option StationFault → Option TargetStamp
answered_of s e None = answered_in s e
answered_of s e (Some f) = None

-- an event that reads so was answered lawfully; its samples were taken, the target that gave up and
-- the one whose poll was answered are known, and what it sends was given to the outbox
pub record IsAnswer (before : State) (e : ReadEvent) (t : Turn) : Type 0 where
  pub handled : IsHandled e t.answer before t.after
  pub taken : t.taken ≡ taken_of before e t.answer
  pub given_up : t.given_up ≡ given_up_of before e t.answer
  pub answered : t.answered ≡ answered_of before e t.answer
  pub sent : t.sent ≡ sent_by before e t.answer

-- an event with this answer reads so; only where memory ran out may that not be known
abbrev pub IsKnown : Watch → OwnedEvent → Option StationFault → Option ReadEvent → Type 0
IsKnown watch event answer (Some e) = ReadsAs watch event e
IsKnown watch event answer None = answer ≡ Some fault.OutOfMemory

-- nothing was taken or sent, no target gave up or answered, and the state stayed
pub record IsNothing (before : State) (t : Turn) : Type 0 where
  pub after : t.after ≡ before
  pub taken : t.taken ≡ []
  pub given_up : t.given_up ≡ None
  pub answered : t.answered ≡ None
  pub sent : t.sent ≡ []

-- a save has only faults of a save
abbrev pub IsKeptFault : Option StationFault → OwnedEvent → Type 0
IsKeptFault (Some f) Save = IsSaveFault f
IsKeptFault answer event = Unit {0}

-- a turn: its event was answered so in every way that it reads, it reads in one unless memory ran
-- out, out of memory does nothing, and a save has only faults of a save
pub record IsTurn (before : State) (t : Turn) : Type 0 where
  pub each : (e : ReadEvent) → ReadsAs before.board.watch t.event e → IsAnswer before e t
  pub known : IsKnown before.board.watch t.event t.answer t.reading
  pub memory : t.answer ≡ Some fault.OutOfMemory → IsNothing before t
  pub fault : IsKeptFault t.answer t.event

-- ---- calls, the newest first
-- what a call for the next event gave: an event, with the turn that it led to; the end; or a fault
pub data Gave : Type 0 where
  Event : Turn → Gave
  End : Gave
  Fault : SourceFault → Gave

-- a call: what the source gave, and the view of it after that
pub record Call (V : Type 0) : Type 0 where
  pub gave : Gave
  pub view : V

-- what a call gave, as the source's result
abbrev pub result_of : Gave → Result (Option OwnedEvent) SourceFault
result_of (Event t) = Ok (Some t.event)
result_of End = Ok None
result_of (Fault f) = Err f

-- the turn of a call, if it led to one
abbrev pub turn_in : Gave → List Turn
turn_in (Event t) = t ∷ []
turn_in End = []
turn_in (Fault f) = []

-- the turns of calls
abbrev pub turns_of : {V : Type 0} → List (Call V) → List Turn
turns_of [] = []
turns_of (c ∷ calls) = turn_in c.gave ++ turns_of calls

-- how many of these is a fault of the source
abbrev pub failed_in : Gave → ℕ
failed_in (Event t) = 0
failed_in End = 0
failed_in (Fault f) = 1

-- how many calls were a fault of the source
abbrev pub failed_of : {V : Type 0} → List (Call V) → ℕ
failed_of [] = 0
failed_of (c ∷ calls) = failed_of calls + failed_in c.gave

-- the view of the source that calls left
abbrev pub view_after : {V : Type 0} → V → List (Call V) → V
view_after first [] = first
view_after first (c ∷ calls) = c.view

-- what became of the event that a call gave, if it gave one
abbrev pub answer_in : Gave → Option Answer
answer_in (Event t) = Some (shown t.answer t.taken t.given_up t.answered)
answer_in End = None
answer_in (Fault f) = None

-- what became of the event that the newest call gave
abbrev pub last_answer : {V : Type 0} → List (Call V) → Option Answer
last_answer [] = None
last_answer (c ∷ calls) = answer_in c.gave

-- there may be a further call: the source did not end
abbrev pub goes_on : Gave → Bool
goes_on (Event t) = true
goes_on End = false
goes_on (Fault f) = true

-- the facts of the last call
abbrev pub go_on : {V : Type 0} → List (Call V) → Bool
go_on [] = true
go_on (c ∷ calls) = goes_on c.gave

-- what a call led to: an event to its turn, and all else to nothing
abbrev pub IsMet : State → Gave → Type 0
IsMet s (Event t) = IsTurn s t
IsMet s End = Unit {0}
IsMet s (Fault f) = Unit {0}

-- a source that was given the open polls and the last answer gave this, and it was met
pub record IsCall {V : Type 0} (Gives : V → Open → Option Answer
    → Result (Option OwnedEvent) SourceFault → V → Type 0) (before : V) (s : State)
    (last : Option Answer) (c : Call V) : Type 0 where
  pub gives : Gives before s.poller.polls.open_polls last (result_of c.gave) c.view
  pub met : IsMet s c.gave

-- each call is one, with the state, the view and the answer that the calls before it left, and none
-- follows the end
abbrev pub AreCalls : {V : Type 0} (Gives : V → Open → Option Answer
    → Result (Option OwnedEvent) SourceFault → V → Type 0) → V → State → List (Call V) → Type 0
AreCalls Gives view first [] = Unit {0}
AreCalls Gives view first (c ∷ calls) = IsCall Gives (view_after view calls)
    (state_after first (turns_of calls)) (last_answer calls) c × (go_on calls ≡ true)
    × AreCalls Gives view first calls

-- ---- the file
-- an opening of this file finds the saved state, or what was said of it before, by the answer to
-- the save
abbrev pub FindsSaved : State → Option StationFault → Type 0 → List ℕ → Type 0
FindsSaved s None Before file = FindsState s file
FindsSaved s (Some (fault.Keeper keeper.DiskFault)) Before file = FindsState s file ⊎ Before
FindsSaved s (Some f) Before file = Before

-- what an opening of this file finds after any event
abbrev pub FindsAfter : State → OwnedEvent → Option StationFault → Type 0 → List ℕ → Type 0
FindsAfter s Save answer Before file = FindsSaved s answer Before file
FindsAfter s event answer Before file = Before

-- an opening of this file finds the last save among these turns that was answered without a fault,
-- or what it would have found in one of the files before them if there was none, or a later save
-- that met the disk's fault
abbrev pub FindsLast : State → (List ℕ → Type 0) → List Turn → List ℕ → Type 0
FindsLast first outcomes [] file = FindsAs outcomes file
FindsLast first outcomes (t ∷ turns) file = FindsAfter (state_after first turns) t.event t.answer
    (FindsLast first outcomes turns file) file

-- while an event is handled, an opening of this file finds what was said of it before, or the state
-- that a save is saving
abbrev pub FindsDuring : State → OwnedEvent → Type 0 → List ℕ → Type 0
FindsDuring s Save Before file = Before ⊎ FindsState s file
FindsDuring s event Before file = Before

-- in the middle of these turns, an opening of this file finds what the turns until then left, or
-- the state that a save was saving
abbrev pub FindsAmid : State → (List ℕ → Type 0) → List Turn → List ℕ → Type 0
FindsAmid first outcomes [] file = FindsAs outcomes file
FindsAmid first outcomes (t ∷ turns) file = FindsAmid first outcomes turns file
    ⊎ FindsDuring (state_after first turns) t.event (FindsLast first outcomes turns file) file

-- ---- lives
-- the entry of a turn, where its event was read
abbrev pub entry_of : Option ReadEvent → Option StationFault → State → List (Entry × State)
entry_of None answer after = []
entry_of (Some e) answer after = (Answered e answer, after) ∷ []

-- the entries of turns
abbrev pub entries_by : List Turn → List (Entry × State)
entries_by [] = []
entries_by (t ∷ turns) = entry_of t.reading t.answer t.after ++ entries_by turns

-- all lives that come to the first state go on by these entries, and come to the other
abbrev pub LiveOn : State → State → List (Entry × State) → Type 0
LiveOn before after more = (past : List (Entry × State)) → IsLived past
    → last_state past ≡ Some before → IsLived (more ++ past)
    × (last_state (more ++ past) ≡ Some after)

-- ---- faults of the file
-- whether an answer is the disk's fault
abbrev pub is_disk_fault : Option StationFault → Bool
is_disk_fault (Some (fault.Keeper keeper.DiskFault)) = true
is_disk_fault answer = false

-- whether an answer is that there is no generation left
abbrev pub is_last_fault : Option StationFault → Bool
is_last_fault (Some (fault.Keeper keeper.NoMoreGenerations)) = true
is_last_fault answer = false

-- whether one of these turns has such an answer
abbrev pub has_answer : (Option StationFault → Bool) → List Turn → Bool
has_answer test [] = false
has_answer test (t ∷ turns) = test t.answer || has_answer test turns

-- the count of a disk's failures did not fall, and it rose, or was at its end, if one of these
-- turns was answered by the disk's fault
pub record CountsFaults (before now : ℕ) (turns : List Turn) : Type 0 where
  pub no_less : before ≤ now
  pub told : has_answer is_disk_fault turns ≡ true → (before < now) ⊎ (before ≡ 2 ^ 64 - 1)

-- if one of these turns was answered so, the greatest generation was found on an honest disk
abbrev pub IsFull : {X : Type 0} (G : Ghosts X) → List Turn → Type 0
IsFull {X = X} G turns = has_answer is_last_fault turns ≡ true
    → (disk : X) × (G.is_honest disk → found_generation (found SLOT_SIZE (G.seen disk))
    ≡ 2 ^ 64 - 1)

-- ---- runs
-- What calls did, from one sight of a station to another. They left the state, the view and what
-- the outbox was given; an honest disk stays so; a crash after them leaves the last save, which the
-- keeper knows too, and a crash in the middle of them what was saved then.
pub record Did {V X : Type 0} {G : Ghosts X} (Gives : V → Open → Option Answer
    → Result (Option OwnedEvent) SourceFault → V → Type 0) (before after : Seen V G)
    (calls : List (Call V)) : Type 0 where
  pub are : AreCalls Gives before.view before.state calls
  pub state : after.state ≡ state_after before.state (turns_of calls)
  pub view : after.view ≡ view_after before.view calls
  pub handed : after.handed ≡ extended before.handed (sent_of (turns_of calls))
  pub honest : G.is_honest before.disk → G.is_honest after.disk
  pub file : G.is_honest before.disk → Leaves (met after) (FindsLast before.state (met before)
      (turns_of calls))
  pub any_moment : G.is_honest before.disk → LeavesSince G.moment G.left_since before.disk
      after.disk (FindsAmid before.state (met before) (turns_of calls))
  pub counted : CountsFaults (G.faults before.disk) (G.faults after.disk) (turns_of calls)
  pub full : IsFull G (turns_of calls)

-- what is said of calls: how many they were, how their events were answered, in order, and how
-- often the source failed
pub record Tells (run : Run) {V : Type 0} (calls : List (Call V)) : Type 0 where
  pub turns : run.turns ≡ length calls
  pub answers : run.answers.items ≡ answers_of (turns_of calls)
  pub source_faults : run.source_faults ≡ failed_of calls

-- the calls are as many as were asked for, or fewer and the last one gave the end
abbrev pub AreAsked : {V : Type 0} → ℕ → List (Call V) → Type 0
AreAsked turns calls = (length calls ≡ turns) ⊎ ((length calls ≤ turns) × (go_on calls ≡ false))

-- a run of at most this many calls: what they did and what is said of them; and they are the next
-- entries of any life of the station
pub record Ran {V X : Type 0} {G : Ghosts X} (Gives : V → Open → Option Answer
    → Result (Option OwnedEvent) SourceFault → V → Type 0) (before after : Seen V G) (turns : ℕ)
    (run : Run) : Type 0 where
  pub calls : List (Call V)
  pub did : Did Gives before after calls
  pub told : Tells run calls
  pub asked : AreAsked turns calls
  pub lived : LiveOn before.state after.state (entries_by (turns_of calls))

-- ---- counts
-- a count of failures after this many more
abbrev pub failures_after : ℕ → ℕ → ℕ
failures_after zero n = n
failures_after (suc times) n = next_count (failures_after times n)

-- as often as a stream's count rose from the first, as often was a failure counted
pub record HasFailed (first now counted : ℕ) : Type 0 where
  pub times : ℕ
  pub stream : now ≡ failures_after times first
  pub count : counted ≡ failures_after times 0

-- a run in which nothing was done
pub record IsEmpty (run : Run) : Type 0 where
  pub answers : run.answers.items ≡ []
  pub turns : run.turns ≡ 0
  pub refused : run.refused ≡ 0
  pub source_faults : run.source_faults ≡ 0
  pub send_faults : run.send_faults ≡ 0
