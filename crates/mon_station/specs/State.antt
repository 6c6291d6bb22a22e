-- What a station holds in memory, and how an event changes it.
use Rattle.std.specs.Prelude.{ℕ, zero, suc, ◌≡◌, ◌+◌, Bool, List, [], ◌∷◌, ◌==◌, if◌then◌else◌}
use Rattle.std.specs.Prelude.{Option, Some, None, Ok, length}
use Rattle.mon_board.specs.Board.{Board, window_of, is_marked}
use Rattle.mon_board.specs.Owed.{kept_marks, owed_in}
use Rattle.mon_board.specs.Windows.{joined}
use Rattle.mon_window.specs.Top.{rising}
use Rattle.mon_window.specs.Window.{Samples}
use Rattle.mon_exchange.specs.declared.noted.Noted.{Noted}
use Rattle.mon_exchange.specs.declared.sharing.Portion.{Portion}
use Rattle.mon_exchange.specs.Peers.{Peers, known_incarnation, latest, noted_as, peer_numbers}
use Rattle.mon_exchange.specs.Peers as exchange
use Rattle.mon_exchange.specs.Portions.{offered_portions, serial_after}
use Rattle.mon_poller.specs.Poller.{Poller}
use Rattle.mon_station.specs.declared.fault.StationFault.{StationFault}
use Rattle.mon_station.specs.declared.life.Life.{Life}
use Rattle.mon_station.specs.ReadEvent.{ReadEvent, FromPeer, Share}
use Rattle.mon_station.specs.Verdict.{Setting, IsLawful, added, polls_after, slot_of}

-- the board, the polls, the peers, the incarnation, and the serial of the next offer
pub record State : Type 0 where
  pub board : Board
  pub poller : Poller
  pub peers : Peers
  pub incarnation : ℕ
  pub serial : ℕ

-- the state of a life
abbrev pub state_of : Life → State
state_of l = record {
  board = l.board;
  poller = l.poller;
  peers = l.peers;
  incarnation =
      l.incarnation;
  serial = l.serial;
}

-- what the station is set up with
abbrev pub setting_of : State → Setting
setting_of s = record {
  watch = s.board.watch;
  targets = s.poller.targets;
  own = s.peers.own;
  peers
      = peer_numbers s.peers.peers;
}

-- the incarnation that is known of a peer
abbrev pub known_of : State → ℕ → Option ℕ
known_of s y = known_incarnation s.peers.peers y

-- ---- what is owed
-- what is owed to the peer in a slot, of each instance: what is in its window and is not marked
abbrev pub owed_to : State → ℕ → ℕ → Samples
owed_to s slot = owed_in (window_of s.board) (is_marked s.board slot)

-- how many samples that is, of the first N instances
abbrev pub owed_below : (ℕ → Samples) → ℕ → ℕ
owed_below owed zero = 0
owed_below owed (suc i) = owed_below owed i + length (rising (owed i))

-- how many samples are owed to the station in this slot
abbrev pub owed_count : State → Option ℕ → ℕ
owed_count s None = 0
owed_count s (Some slot) = owed_below (owed_to s slot) (length s.board.watch.instances)

-- the portions in which it is offered
abbrev pub portions_to : State → ℕ → List Portion
portions_to s slot = offered_portions (owed_to s slot) (length s.board.watch.instances)

-- the portions of a share with the station in this slot
abbrev pub shared_in : State → Option ℕ → List Portion
shared_in s None = []
shared_in s (Some slot) = portions_to s slot

-- the portions of a share with a station
abbrev pub shared_with : State → ℕ → List Portion
shared_with s y = shared_in s (slot_of (peer_numbers s.peers.peers) y)

-- the serial after offers of these portions
abbrev pub serial_past : ℕ → List Portion → ℕ
serial_past serial [] = serial
serial_past serial (p ∷ portions) = serial_past (serial_after serial) portions

-- ---- what an event changes
-- the serial of the next offer after an event with this answer
abbrev pub next_serial : State → ReadEvent → Option StationFault → ℕ
next_serial s (Share y) None = serial_past s.serial (shared_with s y)
next_serial s e answer = s.serial

-- the known incarnations after an event with this answer: of an accepted claim's station the later
-- one
abbrev pub known_after : ReadEvent → Option StationFault → (ℕ → Option ℕ) → ℕ → Option ℕ
known_after (FromPeer (Ok said)) None known y = if y == said.claim.station
    then Some (latest (known y) said.claim.incarnation) else known y
known_after e answer known y = known y

-- marks after a claim from the station in this slot, of the instance of this number, was noted so
abbrev pub marks_by : Option ℕ → Option ℕ → Noted → List ℕ → (old new : ℕ → Samples)
    → (ℕ → ℕ → ℕ → Bool) → ℕ → ℕ → ℕ → Bool
marks_by (Some slot) (Some number) noted samples old new marked = exchange.marks_after noted slot
    number samples old new marked
marks_by slot number noted samples old new marked = λ k. kept_marks old new (marked k)

-- the marks after an event with this answer: they stay with their entries, and an accepted claim
-- marks what it claims
abbrev pub marks_after : Setting → (ℕ → Option ℕ) → ReadEvent → Option StationFault
    → (old new : ℕ → Samples) → (ℕ → ℕ → ℕ → Bool) → ℕ → ℕ → ℕ → Bool
marks_after w known (FromPeer (Ok said)) None old new marked =
    marks_by (slot_of w.peers said.claim.station) said.number
    (noted_as (known said.claim.station) said.claim.incarnation) said.claim.samples old new
    marked
marks_after w known e answer old new marked = λ k. kept_marks old new (marked k)

-- what an event with this answer leaves
pub record IsAfter (e : ReadEvent) (answer : Option StationFault) (old new : State) : Type 0 where
  pub setting : setting_of new ≡ setting_of old
  pub windows : (i : ℕ) → window_of new.board i ≡ joined old.board.watch (window_of old.board)
      (added (setting_of old) old.poller.polls e answer) i
  pub polls : new.poller.polls ≡ polls_after (setting_of old) e answer old.poller.polls
  pub incarnation : new.incarnation ≡ old.incarnation
  pub serial : new.serial ≡ next_serial old e answer
  pub known : (y : ℕ) → known_of new y ≡ known_after e answer (known_of old) y
  pub marks : (k i s : ℕ) → is_marked new.board k i s ≡ marks_after (setting_of old) (known_of old)
      e answer (window_of old.board) (window_of new.board) (is_marked old.board) k i s

-- an event was answered lawfully, and this is what it left
pub record IsHandled (e : ReadEvent) (answer : Option StationFault) (old new : State) : Type 0 where
  pub lawful : IsLawful (setting_of old) old.poller.polls e answer
  pub after : IsAfter e answer old new
