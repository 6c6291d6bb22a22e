-- A whole round of a station, and the whole time between two.
use Rattle.std.specs.Prelude.{ℕ, ◌≡◌, List, Option, None, Result, Ok, All, length}
use Rattle.mon_disk.specs.declared.disk.Disk.{Ghosts}
use Rattle.mon_poller.specs.Polls.{Open}
use Rattle.mon_station.specs.ReadEvent.{OwnedEvent}
use Rattle.mon_station.specs.declared.running.Answer.{Answer}
use Rattle.mon_udp.specs.Told.{GoesOnBy}
use Rattle.mon_rounds.specs.declared.round.Phase.TheVariants.{Over, Rested}
use Rattle.mon_rounds.specs.declared.round.Span.{Span}
use Rattle.mon_rounds.specs.declared.round.Span.TheVariants.{Round, Between}
use Rattle.mon_rounds.specs.Given.{AreGiven}
use Rattle.mon_rounds.specs.Kept.{Kept, KeepsGiven}
use Rattle.mon_rounds.specs.Next.{GivesNext, IsEnded, RoundState, TakesTurn, turns_left}
use Rattle.mon_rounds.specs.Order.{IsDatagram, IsRound}
use Rattle.mon_rounds.specs.Reception.{Reception}
use Rattle.mon_station.specs.declared.running.Run.{Run}
use Rattle.mon_station.specs.declared.running.SourceFault.{SourceFault}
use Rattle.mon_station.specs.Ran.{Ran, events_of, turns_of}
use Rattle.mon_station.specs.Seen.{Seen}

-- what can be said of a station's rounds: the round, or the time between two; what the receiver
-- got, if it states that; and the newest datagrams of targets
pub record RoundsView : Type 0 where
  pub round : RoundState
  pub heard : Option (List Reception)
  pub kept : Kept

-- rounds in this state, over a receiver that got this, with these newest datagrams
abbrev pub view_of : RoundState → Option (List Reception) → Kept → RoundsView
view_of r heard kept = record { round = r; heard = heard; kept = kept }

-- A call for the next event returns what the round has next, by what the receiver got in it, and a
-- target's datagram that it returns is kept. Each call but the last leaves fewer of them, and where
-- nothing is given the round, or the time between two, is over.
pub record GivesOn (before : RoundsView) (open_polls : Open) (last : Option Answer)
    (result : Result (Option OwnedEvent) SourceFault) (after : RoundsView) : Type 0 where
  pub step : GoesOnBy (λ log. GivesNext before.round open_polls last log result after.round)
      before.heard after.heard
  pub kept : KeepsGiven before.round result before.kept after.kept
  pub turns : TakesTurn result (turns_left before.round) (turns_left after.round)
  pub ended : result ≡ Ok None → IsEnded after.round.phase

-- targets and peers are reached where they were, a wait is as long, polls are tried as often, and
-- the next round saves if it did before
pub record HasSame (old new : RoundState) : Type 0 where
  pub targets : new.targets ≡ old.targets
  pub peers : new.peers ≡ old.peers
  pub peer_addresses : new.peer_addresses ≡ old.peer_addresses
  pub wait_ms : new.wait_ms ≡ old.wait_ms
  pub tries : new.tries ≡ old.tries
  pub saves : new.saves ≡ old.saves

-- These events are those of a whole round over the same targets and peers: each target is polled,
-- what comes is received and what is not answered times out, each peer is offered what it is owed,
-- what comes is received, and all is saved, if that was said of the next round before it started.
pub record IsWholeRound (old new : RoundState) (given : List OwnedEvent) : Type 0 where
  pub same : HasSame old new
  pub over : new.phase ≡ Over
  pub order : IsRound (length old.targets) old.tries old.peers old.saves new.events
  pub are : AreGiven new.events given

-- these events are those of a whole time between two rounds: only datagrams
pub record IsWholeRest (old new : RoundState) (given : List OwnedEvent) : Type 0 where
  pub same : HasSame old new
  pub over : new.phase ≡ Rested
  pub each : All IsDatagram new.events
  pub are : AreGiven new.events given

-- these events are those of a whole round, or of the whole time between two
abbrev pub IsWhole : Span → RoundState → RoundState → List OwnedEvent → Type 0
IsWhole Round = IsWholeRound
IsWhole (Between milliseconds) = IsWholeRest

-- a station was run, in at most 5000 calls for an event, and this holds of the events that it was
-- given
pub record HasRun {X : Type 0} {G : Ghosts X} (Are : List OwnedEvent → Type 0)
    (before after : Seen RoundsView G) (run : Run) : Type 0 where
  pub ran : Ran GivesOn before after 5000 run
  pub are : Are (events_of (turns_of ran.calls))
