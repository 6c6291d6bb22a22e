-- A world in memory against the moves that led to it.
use Rattle.std.specs.Prelude.{ℕ, ◌≡◌, ◌+◌, Bool, true, false, List, [], ◌∷◌, Option, Some, None}
use Rattle.std.specs.Prelude.{map, length, slice_set}
use Rattle.std.specs.List.{AllByRecursion}
use Rattle.mon_board.specs.Board.{window_of}
use Rattle.mon_board.specs.Windows.{Has}
use Rattle.mon_disk.specs.Disk.{Leaves}
use Rattle.mon_disk.specs.Keeper.{IsAs}
use Rattle.mon_disk.specs.Kept.{device_of, last_body}
use Rattle.mon_disk.specs.Memory.{memory_leaves}
use Rattle.mon_disk.specs.declared.disk.Disk.{Ghosts}
use Rattle.mon_disk.specs.declared.memory.MemoryDisk.{MemoryDisk}
use Rattle.mon_exchange.specs.Claim.{IsClaim, claim_octets}
use Rattle.mon_report.specs.Report.{report}
use Rattle.mon_config.specs.StationCore.{Core}
use Rattle.mon_station.specs.declared.station.Station.{Station}
use Rattle.mon_station.specs.Lived.{entries_of, last_state, saved_states}
use Rattle.mon_station.specs.declared.fault.StationFault.{StationFault}
use Rattle.mon_station.specs.ReadEvent.{ReadEvent, ReadsAs, OwnedEvent}
use Rattle.mon_station.specs.Saved.{FindsState, IsBegun, OrLast}
use Rattle.mon_station.specs.State.{State, known_of, owed_count, setting_of, state_of}
use Rattle.mon_station.specs.Taken.{Entry, Answered, at_place, taken}
use Rattle.mon_station.specs.Verdict.{slot_of}
use Rattle.mon_window.specs.Window.{In}
use Rattle.mon_world.specs.declared.sending.Datagram.{Datagram}
use Rattle.mon_world.specs.Debts.{offered_in, owed_by}
use Rattle.mon_world.specs.Moves.{Move, Letter, AreMoves, MayFind, letters_by, lives_of, sent_in}
use Rattle.mon_world.specs.Outcome.{answers}
use Rattle.mon_world.specs.Places.{HasNumber, setting_at}

-- stations x and y, in these states, know each other's present incarnation and owe each other
-- nothing
pub record AreSquare (x y : ℕ) (s t : State) : Type 0 where
  pub known : known_of s y ≡ Some t.incarnation
  pub known_back : known_of t x ≡ Some s.incarnation
  pub nothing : owed_count s (slot_of (setting_of s).peers y) ≡ 0
  pub nothing_back : owed_count t (slot_of (setting_of t).peers x) ≡ 0

-- octets on their way to a station
abbrev pub Parcel : Type 0
Parcel = ℕ × List ℕ

-- a datagram as such
abbrev pub parcel_of : Datagram → Parcel
parcel_of d = (d.to, d.octets)

-- a claim as such
abbrev pub parcel_with : Letter → Parcel
parcel_with l = (l.to, claim_octets l.claim)

-- an opening of this file finds one of the saves that it may find after these lives
pub record FindsOne (lives : List (Entry × State)) (file : List ℕ) : Type 0 where
  pub later : ℕ
  pub state : State
  pub may : MayFind lives later
  pub there : at_place later (saved_states lives) ≡ Some state
  pub finds : FindsState state file

-- An opening of this file finds what a stop within a save of this state left of the old file: where
-- that was too early, what an opening of the old file finds, and else this state.
abbrev pub FindsStopped : (early : Bool) → State → (old file : List ℕ) → Type 0
FindsStopped true s old file = IsAs file old
FindsStopped false s old file = FindsState s file

-- the state of a station over a disk in memory
abbrev pub state_in : {G : Ghosts MemoryDisk} → Station MemoryDisk G → State
state_in s = state_of s.life

-- what a crash may leave of its disk, or a file in which its keeper's last save is found
abbrev pub disk_leaves : {G : Ghosts MemoryDisk} → Station MemoryDisk G → List ℕ → Type 0
disk_leaves s = OrLast (memory_leaves (device_of s.keeper)) (last_body s.keeper)

-- a station is as these lives left it, and whatever a crash leaves of its disk, an opening finds
-- one of their saves
pub record Stands {G : Ghosts MemoryDisk} (s : Station MemoryDisk G) (lives : List (Entry × State))
    : Type 0 where
  pub state : last_state lives ≡ Some (state_in s)
  pub disk : Leaves (disk_leaves s) (FindsOne lives)

-- these stations, set up with this core, are what these moves led to
pub record AreShown {G : Ghosts MemoryDisk} (core : Core) (stations : List (Station MemoryDisk G))
    (moves : List Move) : Type 0 where
  pub are : AreMoves (setting_at core (length stations)) moves
  pub stand : (x : ℕ) (s : Station MemoryDisk G) → HasNumber stations x s
      → Stands s (lives_of x moves)

-- datagrams are the claims of these letters
pub record AreSent (datagrams : List Datagram) (letters : List Letter) : Type 0 where
  pub parcels : map parcel_of datagrams ≡ map parcel_with letters
  pub claims : AllByRecursion IsClaim (map (λ l. l.claim) letters)

-- these stations and the datagrams that were sent between them are what these moves led to
pub record Shows {G : Ghosts MemoryDisk} (core : Core) (stations : List (Station MemoryDisk G))
    (sent : List Datagram) (moves : List Move) : Type 0 where
  pub shown : AreShown core stations moves
  pub letters : AreSent sent (sent_in moves)

-- moves lead on to these stations and datagrams, and P holds of the moves
pub record LeadsTo {G : Ghosts MemoryDisk} (core : Core) (stations : List (Station MemoryDisk G))
    (sent : List Datagram) (P : List Move → Type 0) : Type 0 where
  pub now : List Move
  pub shows : Shows core stations sent now
  pub is : P now

-- station x was asked about an event, and this is what it answered, what it is then, and what it
-- sends
pub record IsStationAsked {G : Ghosts MemoryDisk} (core : Core) (x : ℕ) (event : OwnedEvent)
    (answer : Option StationFault) (sends : List Datagram) (past : List Move)
    (stations : List (Station MemoryDisk G)) : Type 0 where
  pub read : ReadEvent
  pub after : State
  pub reads : ReadsAs core.watch event read
  pub shown : AreShown core stations (answers x read answer after ∷ past)
  pub letters : AreSent sends (letters_by (last_state (lives_of x past)) (Answered read answer))

-- what a step with a fault led to: if memory ran out nothing happened
abbrev pub IsStationRefused : {G : Ghosts MemoryDisk} → Core → ℕ → OwnedEvent → Option StationFault
    → List Move → List (Station MemoryDisk G) → Type 0
IsStationRefused core x event None past stations = AreShown core stations past
IsStationRefused core x event (Some f) past stations = IsStationAsked core x event (Some f) [] past
    stations

-- station x of this many is in its first life, which will be found
pub record IsFirst {G : Ghosts MemoryDisk} (core : Core) (count x : ℕ) (s : Station MemoryDisk G) :
    Type 0 where
  pub begun : IsBegun (setting_at core count x) None (state_in s)
  pub kept : Leaves (disk_leaves s) (FindsState (state_in s))

-- each of these stations, of this many, is
abbrev pub AreFirst : {G : Ghosts MemoryDisk} → Core → ℕ → List (Station MemoryDisk G) → Type 0
AreFirst {G} core count stations = (x : ℕ) (s : Station MemoryDisk G) → HasNumber stations x s
    → IsFirst core count x s

-- a station at this place of a world of this many started a life from this body, and will be found
pub record IsReplaced {G : Ghosts MemoryDisk} (core : Core) (place : ℕ) (body : Option (List ℕ))
    (old new : List (Station MemoryDisk G)) : Type 0 where
  pub station : Station MemoryDisk G
  pub is : new ≡ slice_set old place station
  pub begun : IsBegun (setting_at core (length old) (place + 1)) body (state_in station)
  pub kept : Leaves (disk_leaves station) (FindsState (state_in station))

-- What stations in these states say of their debts is true after these moves. What x does not owe y,
-- whose present incarnation it knows, y has taken; two stations that know each other's present
-- incarnation and owe each other nothing hold equal windows and print equal reports; and every
-- sample in a window was offered by an agent.
pub record OweTruly (IsAt : ℕ → State → Type 0) (moves : List Move) : Type 0 where
  pub paid : (x y : ℕ) (s t : State) → IsAt x s → IsAt y t → known_of s y ≡ Some t.incarnation
      → (i k : ℕ) → In k (window_of s.board i) → ¬ (In k (owed_by s (lives_of x moves) y i))
      → In k (taken (entries_of (lives_of y moves)) i)
  pub equal : (x y : ℕ) (s t : State) → IsAt x s → IsAt y t → AreSquare x y s t → (i : ℕ)
      → window_of s.board i ≡ window_of t.board i
  pub reports : (x y : ℕ) (s t : State) → IsAt x s → IsAt y t → AreSquare x y s t
      → report s.board.watch (window_of s.board) ≡ report t.board.watch (window_of t.board)
  pub offered : (x : ℕ) (s : State) → IsAt x s → (i k : ℕ) → In k (window_of s.board i)
      → Has (offered_in moves) i k

-- what the states that these moves left say of their debts is true
abbrev pub StatesOweTruly : List Move → Type 0
StatesOweTruly moves = OweTruly (λ x s. last_state (lives_of x moves) ≡ Some s) moves

-- what these stations say of their debts is true after these moves
abbrev pub DebtsAreTrue : {G : Ghosts MemoryDisk} → List (Station MemoryDisk G) → List Move
    → Type 0
DebtsAreTrue {G} stations moves = OweTruly (λ x s. (one : Station MemoryDisk G)
    × HasNumber stations x one × (s ≡ state_in one)) moves
