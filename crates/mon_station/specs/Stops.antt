-- What happens to a station's disk over its lives, one call or stop after another, and which states
-- an opening may find after it. In all lists the newest is first.
use Rattle.std.specs.Prelude.{ℕ, ◌≡◌, ◌+◌, ◌⊎◌, List, [], ◌∷◌, Option, Some, None}
use Rattle.std.specs.FinSet as set
use Rattle.mon_board.specs.Board.{window_of}
use Rattle.mon_board.specs.Instance.{instances_of}
use Rattle.mon_board.specs.Windows.{kept_by}
use Rattle.mon_disk.specs.Disk.{Leaves, LeavesSince}
use Rattle.mon_disk.specs.History as keeping
use Rattle.mon_disk.specs.Keeper.{FindsAs, FindsBody, found_body}
use Rattle.mon_disk.specs.declared.disk.Disk.{Ghosts}
use Rattle.mon_station.specs.declared.fault.StationFault.{StationFault}
use Rattle.mon_station.specs.ReadEvent.{ReadEvent, Save}
use Rattle.mon_station.specs.Saved.{FindsOpening, FindsRunning, FindsState, IsBeginning, IsBegun}
use Rattle.mon_station.specs.State.{State, IsHandled}
use Rattle.mon_station.specs.Verdict.{Setting}

-- A call of a station with its answer, or a stop: an opening that was answered by a life that
-- begins in this state, an opening that was refused, an event with its answer and the state that it
-- left, a move of the running life to another disk, on which a save of it was then acknowledged, a
-- stop within an opening, or one within a save or between calls.
pub data Happening : Type 0 where
  Opened : Setting → State → Happening
  Unopened : Setting → Happening
  Handled : ReadEvent → Option StationFault → State → Happening
  Moved : Happening
  StoppedOpening : Setting → Happening
  Stopped : Happening

-- an opening of this file finds this saved state, or that none was saved
abbrev pub FindsSave : Option State → List ℕ → Type 0
FindsSave None file = FindsBody None file
FindsSave (Some s) file = FindsState s file

-- a life that is running: its state, and the state of it that was saved last
pub record RunningLife : Type 0 where
  pub now : State
  pub saved : State

-- an opening of this file meets what an opening of one of these would, or finds a state of the life
-- that is running, if one is: the one that was saved last, to which a keeper goes back whose disk
-- failed, or the present one
abbrev pub FindsRunningIn : (List ℕ → Type 0) → Option RunningLife → List ℕ → Type 0
FindsRunningIn outcomes None file = FindsAs outcomes file
FindsRunningIn outcomes (Some life) file = FindsRunning (λ c. outcomes c ⊎ FindsState life.saved c)
    life.now file

-- ---- histories, each happening with the disk that it left
-- the state of a life that is the last saved after an event with this answer
abbrev pub saved_after : ReadEvent → Option StationFault → RunningLife → State
saved_after Save None life = life.now
saved_after e answer life = life.saved

-- the life that is running after it, if one is, where this one was before it: an opening saves its
-- life, and so does the first save after a move
abbrev pub life_after : Happening → Option RunningLife → Option RunningLife
life_after (Opened w s) life = Some (record { now = s; saved = s })
life_after (Handled e answer s) (Some life) = Some (record {
  now = s;
  saved = saved_after e answer life;
})
life_after Moved (Some life) = Some (record { now = life.now; saved = life.now })
life_after h life = None

-- the life that is running after a history, if one is
abbrev pub running : {D : Type 0} → List (Happening × D) → Option RunningLife
running [] = None
running ((h, disk) ∷ past) = life_after h (running past)

-- the disk after it
abbrev pub last_disk : {D : Type 0} → D → List (Happening × D) → D
last_disk first [] = first
last_disk first ((h, disk) ∷ past) = disk

-- the states with which those lives begin that were handed out: no other life sent anything
abbrev pub begun_in : {D : Type 0} → List (Happening × D) → List State
begun_in [] = []
begun_in ((Opened w s, disk) ∷ past) = s ∷ begun_in past
begun_in (x ∷ past) = begun_in past

-- ---- what an opening may find
-- it is the present state of the life that is running
abbrev pub IsRunning : Option RunningLife → Option State → Type 0
IsRunning None save = ⊥
IsRunning (Some life) save = save ≡ Some life.now

-- it is the life that an opening of this setting begins, or would have started, from this file
abbrev pub IsRaised : Setting → List ℕ → Option State → Type 0
IsRaised w file save = (s : State) × (save ≡ Some s) × IsBegun w (found_body file) s

-- What may be found after it, where this life was running, this was the file, and these were found
-- before: a save that is acknowledged, which an opening's own is too, is the only one; one that was
-- running or failed comes to those before, also one of an opening.
abbrev pub FoundAfter : Happening → Option RunningLife → List ℕ → (Option State → Type 0)
    → Option State → Type 0
FoundAfter (Opened w s) life file Before save = save ≡ Some s
FoundAfter (Handled Save None s) life file Before save = IsRunning life save
FoundAfter (Handled Save (Some f) s) life file Before save = Before save ⊎ IsRunning life save
FoundAfter (Handled e answer s) life file Before save = Before save
FoundAfter Moved life file Before save = IsRunning life save
FoundAfter Stopped life file Before save = Before save ⊎ IsRunning life save
FoundAfter (Unopened w) life file Before save = Before save ⊎ IsRaised w file save
FoundAfter (StoppedOpening w) life file Before save = Before save ⊎ IsRaised w file save

-- ---- what happens, as the clauses of `open` and `step` give it
module _ {D : Type 0} (G : Ghosts D) where
  -- a stop in the middle of calls: a crash then left a file of which P holds
  abbrev pub IsStopped : (List ℕ → Type 0) → D → D → Type 0
  IsStopped P old new = keeping.IsStopped G.is_honest G.seen G.may_leave G.moment G.left_since P old
      new

  -- an opening that was answered by a life in this state: it begins from what is found, and will be
  -- found
  pub record IsOpened (w : Setting) (s : State) (old new : D) : Type 0 where
    pub begun : IsBegun w (found_body (G.seen old)) s
    pub kept : Leaves (G.may_leave new) (FindsState s)

  -- the disk after an event that this life answered so: after a save a crash leaves files in which
  -- its state is found; after one that failed perhaps, or the one that was saved last; no other
  -- event touches it
  abbrev pub IsDiskAfter : RunningLife → ReadEvent → Option StationFault → D → D → Type 0
  IsDiskAfter life Save None old new = Leaves (G.may_leave new) (FindsState life.now)
  IsDiskAfter life Save (Some f) old new = LeavesSince G.moment G.left_since old new
      (FindsRunningIn (G.may_leave old) (Some life))
  IsDiskAfter life e answer old new = new ≡ old

  -- It happens where this life is running, if one is, from the disk before it to the disk after it.
  -- Of the other disk after a move it is only said that a crash leaves files in which the state of
  -- the running life is found. Without a life no event is answered, and none moves.
  abbrev pub Happens : Happening → Option RunningLife → D → D → Type 0
  Happens (Opened w s) life old new = IsOpened w s old new
  Happens (Unopened w) life old new = IsBeginning w G old new
  Happens (Handled e answer s) (Some life) old new = IsHandled e answer life.now s
      × IsDiskAfter life e answer old new
  Happens Moved (Some life) old new = Leaves (G.may_leave new) (FindsState life.now)
  Happens (StoppedOpening w) life old new = IsStopped
      (FindsOpening w (G.seen old) (G.may_leave old)) old new
  Happens Stopped life old new = IsStopped (FindsRunningIn (G.may_leave old) life) old new
  Happens h life old new = ⊥

  -- a history: it begins on an honest disk that has no save, and each happening follows from the
  -- one before it, on honest disks
  abbrev pub IsHistory : D → List (Happening × D) → Type 0
  IsHistory first [] = G.is_honest first × Leaves (G.may_leave first) (FindsBody None)
  IsHistory first ((h, new) ∷ past) = G.is_honest new
      × Happens h (running past) (last_disk first past) new × IsHistory first past

  -- What an opening may find after a history, None if it finds none: the last save that was
  -- acknowledged, or one after it that was running or failed. No older one is among them.
  abbrev pub MayFind : D → List (Happening × D) → Option State → Type 0
  MayFind first [] save = save ≡ None
  MayFind first ((h, disk) ∷ past) save = FoundAfter h (running past)
      (G.seen (last_disk first past)) (MayFind first past) save

-- an opening of this file finds one of these
abbrev pub FindsOneOf : (Option State → Type 0) → List ℕ → Type 0
FindsOneOf May file = (save : Option State) × May save × FindsSave save file

-- A life of this setting goes on from a save: with the next incarnation and, of the same instances,
-- with what its watch keeps of each window; from no save with empty windows and incarnation 1.
abbrev pub GoesOn : Setting → Option State → State → Type 0
GoesOn w None s = ((i : ℕ) → window_of s.board i ≡ set.empty) × (s.incarnation ≡ 1)
GoesOn w (Some old) s = (s.incarnation ≡ old.incarnation + 1)
    × (instances_of w.watch.instances ≡ instances_of old.board.watch.instances → (i : ℕ)
    → window_of s.board i ≡ kept_by w.watch i (window_of old.board i))
