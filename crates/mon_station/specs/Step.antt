-- What every step says besides its answer.
use Rattle.std.specs.Prelude.{ℕ, ◌≡◌, ◌≤◌, length, Result, Ok, Err}
use Rattle.mon_window.specs.Top.{rising}
use Rattle.mon_board.specs.Board.{MarksEntries, window_of}
use Rattle.mon_board.specs.Windows.{IsWhole}
use Rattle.mon_board.specs.Watch.{Watch}
use Rattle.mon_poller.specs.Polls.{Polls}
use Rattle.mon_station.specs.declared.event.Told.{Told}
use Rattle.mon_station.specs.declared.fault.StationFault.{StationFault}
use Rattle.mon_station.specs.declared.fault.StationFault.TheVariants as fault
use Rattle.mon_station.specs.ReadEvent.{ReadEvent, ReadsAs, OwnedEvent}
use Rattle.mon_station.specs.State.{State}

-- the event reads as something; where memory ran out that is not known
abbrev pub IsRead : Watch → OwnedEvent → Result Told StationFault → Type 0
IsRead watch event (Ok told) = (e : ReadEvent) × ReadsAs watch event e
IsRead watch event (Err f) = (f ≡ fault.OutOfMemory → ⊥) → (e : ReadEvent) × ReadsAs watch event e

-- the state with these open polls in place of its own
abbrev pub left_polls : State → Polls → State
left_polls s polls = record {
  board = s.board;
  poller = record
      { targets = s.poller.targets; polls = polls };
  peers = s.peers;
  incarnation = s.incarnation;
  serial = s.serial;
}

-- what holds of every state: windows hold no more than the watch keeps of them, only what is in
-- them is marked, no window has more than 64 samples, and at most 256 instances are watched
pub record IsSettled (s : State) : Type 0 where
  pub whole : (i : ℕ) → IsWhole s.board.watch (window_of s.board) i
  pub entries : MarksEntries s.board
  pub few : (i : ℕ) → length (rising (window_of s.board i)) ≤ 64
  pub most : length s.board.watch.instances ≤ 256
