-- What one call of a run did, and what it counts.
use Rattle.std.specs.Prelude.{◌≡◌, ◌≤◌, ◌+◌, Bool, List, [], ◌∷◌, ◌++◌, Option, Result}
use Rattle.std.specs.Prelude.{vec_capacity}
use Rattle.mon_disk.specs.declared.disk.Disk.{Ghosts}
use Rattle.mon_disk.specs.Disk.{Leaves, LeavesSince}
use Rattle.mon_poller.specs.Polls.{Open}
use Rattle.mon_station.specs.ReadEvent.{OwnedEvent}
use Rattle.mon_udp.specs.Told.{extended}
use Rattle.mon_station.specs.declared.running.Answer.{Answer}
use Rattle.mon_station.specs.declared.running.Run.{Run}
use Rattle.mon_station.specs.declared.running.SourceFault.{SourceFault}
use Rattle.mon_station.specs.Ran.{Call, CountsFaults, Did, FindsAmid, FindsLast, Gave, IsFull}
use Rattle.mon_station.specs.Ran.{IsTurn, Tells, Turn, answer_in, answers_of, failed_in, faults_in}
use Rattle.mon_station.specs.Ran.{go_on, goes_on, last_answer, shown, turn_in}
use Rattle.mon_station.specs.Seen.{Seen, met}

-- one event: its turn, its answer as it is shown, and what is left of the station, its outbox and
-- its disk
pub record Turned {V X : Type 0} {G : Ghosts X} (before after : Seen V G) (event : OwnedEvent)
    (answer : Answer) : Type 0 where
  pub turn : Turn
  pub event_is : turn.event ≡ event
  pub is : IsTurn before.state turn
  pub state : after.state ≡ turn.after
  pub handed : after.handed ≡ extended before.handed turn.sent
  pub shown_is : answer ≡ shown turn.answer turn.taken turn.given_up turn.answered
  pub honest : G.is_honest before.disk → G.is_honest after.disk
  pub file : G.is_honest before.disk → Leaves (met after) (FindsLast before.state (met before)
      (turn ∷ []))
  pub any_moment : G.is_honest before.disk → LeavesSince G.moment G.left_since before.disk
      after.disk (FindsAmid before.state (met before) (turn ∷ []))
  pub counted : CountsFaults (G.faults before.disk) (G.faults after.disk) (turn ∷ [])
  pub full : IsFull G (turn ∷ [])

-- what is counted of what a call gave
pub record IsCounted (old new : Run) (gave : Gave) : Type 0 where
  pub turns : new.turns ≡ old.turns
  pub answers : new.answers.items ≡ old.answers.items ++ answers_of (turn_in gave)
  pub faults : new.source_faults ≡ old.source_faults + failed_in gave
  pub room : vec_capacity old.answers ≤ vec_capacity new.answers
  pub refused : old.refused ≡ faults_in old.answers.items → new.refused
      ≡ faults_in new.answers.items

-- what a source gives that is given this answer as the last one
abbrev pub told_of : {V : Type 0} → Option Answer → (Gives : V → Open → Option Answer
    → Result (Option OwnedEvent) SourceFault → V → Type 0) → V → Open → Option Answer
    → Result (Option OwnedEvent) SourceFault → V → Type 0
told_of last Gives view polls first result after = Gives view polls last result after

-- one call, what it did and what is counted of it; what became of its event; and whether the source
-- goes on
pub record Called {V X : Type 0} {G : Ghosts X} (Gives : V → Open → Option Answer
    → Result (Option OwnedEvent) SourceFault → V → Type 0) (before after : Seen V G) (old new : Run)
    (last : Option Answer) (going : Bool) : Type 0 where
  pub call : Call V
  pub did : Did Gives before after (call ∷ [])
  pub counted : IsCounted old new call.gave
  pub last_is : answer_in call.gave ≡ last
  pub going_is : goes_on call.gave ≡ going

-- the calls so far, what became of the last event, and whether the source goes on
pub record RanSoFar {V X : Type 0} {G : Ghosts X} (Gives : V → Open → Option Answer
    → Result (Option OwnedEvent) SourceFault → V → Type 0) (before after : Seen V G) (run : Run)
    (last : Option Answer) (going : Bool) : Type 0 where
  pub calls : List (Call V)
  pub did : Did Gives before after calls
  pub told : Tells run calls
  pub last_is : last_answer calls ≡ last
  pub going_is : go_on calls ≡ going
