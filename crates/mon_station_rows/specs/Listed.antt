-- A source that returns a list of events, and a run over it.
use Rattle.std.specs.Prelude.{ℕ, ◌≡◌, ◌<◌, ◌-◌, List, [], ◌++◌, Option, None, Result, Ok, Err}
use Rattle.std.specs.Option.{option_to_list}
use Rattle.mon_poller.specs.Polls.{Open}
use Rattle.mon_station.specs.ReadEvent.{OwnedEvent}
use Rattle.mon_udp.specs.Told.{extended}
use Rattle.mon_station.specs.declared.event.Outgoing.{Outgoing}
use Rattle.mon_station.specs.declared.running.Answer.{Answer}
use Rattle.mon_station.specs.declared.running.Run.{Run}
use Rattle.mon_station.specs.declared.running.SourceFault.{SourceFault}
use Rattle.mon_station.specs.Ran.{Turn, answers_of, events_of, sent_of}

-- the events that are left, and in how many calls one fails; 0: none does
pub record Listing : Type 0 where
  pub events : List OwnedEvent
  pub calls_to_fault : ℕ

-- each call returns the next event, none if none is left; the one that fails returns none, and the
-- events stay
abbrev pub GivesNext : Listing → Result (Option OwnedEvent) SourceFault → Listing → Type 0
GivesNext v (Ok event) w =
    (v.calls_to_fault ≡ 1 → ⊥) × (w.calls_to_fault ≡ v.calls_to_fault - 1)
    × (v.events ≡ option_to_list event ++ w.events) × (event ≡ None → w.events ≡ [])
GivesNext v (Err fault) w = (v.calls_to_fault ≡ 1) × (w.calls_to_fault ≡ 0) × (w.events ≡ v.events)

-- so does a call that is given any open polls, and any answer as the last one
abbrev pub GivesListed : Listing → Open → Option Answer → Result (Option OwnedEvent) SourceFault
    → Listing → Type 0
GivesListed v polls last result w = GivesNext v result w

-- A run over a list that leaves these events: it was given the others in their order, its answers
-- are theirs, and the outbox was given what they send. Where it made fewer calls than it might,
-- none is left.
pub record RanOver (events left : List OwnedEvent) (handed_before handed_now : Option
    (List Outgoing)) (turns : ℕ) (run : Run) : Type 0 where
  pub done : List Turn
  pub given : events ≡ events_of done ++ left
  pub answers : run.answers.items ≡ answers_of done
  pub handed : handed_now ≡ extended handed_before (sent_of done)
  pub whole : run.turns < turns → left ≡ []
