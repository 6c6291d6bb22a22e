-- What a station leaves on its disk, and what an opening makes of it.
use Rattle.std.specs.Prelude.{ℕ, ◌≡◌, ◌≤◌, ◌+◌, ◌-◌, ◌^◌, ◌⊎◌, false, List, Option, Some, None, Err}
use Rattle.std.specs.FinSet as set
use Rattle.mon_board.specs.Board.{Board, window_of}
use Rattle.mon_board.specs.Instance.{instances_of}
use Rattle.mon_board.specs.Watch.{Watch}
use Rattle.mon_disk.specs.declared.fault.KeeperFault.TheVariants as keeper
use Rattle.mon_disk.specs.Disk.{Leaves, LeavesSince}
use Rattle.mon_disk.specs.Fault.{HasDiskCause}
use Rattle.mon_disk.specs.File.{found}
use Rattle.mon_disk.specs.Kept.{device_of, last_body}
use Rattle.mon_disk.specs.declared.disk.Disk.{Ghosts}
use Rattle.mon_disk.specs.declared.keeper.Keeper.{Keeper}
use Rattle.mon_disk.specs.Keeper.{FindsAs, FindsBody, IsAs, found_body, found_generation}
use Rattle.mon_disk.specs.Keeper.{is_undamaged}
use Rattle.mon_disk.specs.declared.file.TheConstants.{SLOT_SIZE}
use Rattle.mon_poller.specs.Polls.{no_polls}
use Rattle.mon_saved.specs.declared.image.Image.{Image}
use Rattle.mon_saved.specs.Image.{SpellsImage}
use Rattle.mon_saved.specs.Reading.{image_at}
use Rattle.mon_saved.specs.Restored.{IsRestored, IsUnmarked}
use Rattle.mon_saved.specs.Written.{image_of, written_image}
use Rattle.mon_station.specs.declared.fault.StationFault.{StationFault}
use Rattle.mon_station.specs.declared.fault.StationFault.TheVariants as fault
use Rattle.mon_station.specs.State.{State, known_of, setting_of}
use Rattle.mon_station.specs.Verdict.{Setting}

-- the image that a save of this state writes
abbrev pub saved_octets : State → List ℕ
saved_octets s = written_image s.board s.incarnation

-- an opening of this file finds the image of this state, which spells it
pub record FindsState (s : State) (file : List ℕ) : Type 0 where
  pub body : FindsBody (Some (saved_octets s)) file
  pub spells : SpellsImage (saved_octets s) (instances_of s.board.watch.instances)
      (image_of s.board s.incarnation)

-- an opening of this file meets what an opening of one of these would, or finds this state
abbrev pub FindsRunning : (List ℕ → Type 0) → State → List ℕ → Type 0
FindsRunning outcomes s file = FindsAs outcomes file ⊎ FindsState s file

-- this body is the image of this state, which it spells
pub record IsSavedAs (s : State) (body : Option (List ℕ)) : Type 0 where
  pub octets : body ≡ Some (saved_octets s)
  pub spells : SpellsImage (saved_octets s) (instances_of s.board.watch.instances)
      (image_of s.board s.incarnation)

-- one of these files, or one in which an opening finds this body
abbrev pub OrLast : (List ℕ → Type 0) → Option (List ℕ) → List ℕ → Type 0
OrLast outcomes last file = outcomes file ⊎ FindsBody last file

-- What a crash may leave of a keeper's disk, or a file in which its last save is found: a keeper
-- whose disk failed goes back to that at the next save. Until it fails, these are the files that a
-- crash may leave, for in each of them the last save is found.
abbrev pub may_meet : {X : Type 0} {G : Ghosts X} → Keeper X G → List ℕ → Type 0
may_meet {G = G} k = OrLast (G.may_leave (device_of k)) (last_body k)

-- ---- the life that an opening begins
-- the windows and the incarnation of a life that begins from this body: where none is found, empty
-- windows and 1; else those of the image, and the next
abbrev pub IsRestoredFrom : Watch → Option (List ℕ) → Board → ℕ → Type 0
IsRestoredFrom watch None board incarnation = ((i : ℕ) → window_of board i ≡ set.empty)
    × (incarnation ≡ 1)
IsRestoredFrom watch (Some octets) board incarnation = (old : ℕ) × IsRestored watch octets board old
    × (incarnation ≡ old + 1)

-- a life of this setting begins from this body: no poll is open or was started, no peer's
-- incarnation is known, and nothing is marked
pub record IsBegun (w : Setting) (body : Option (List ℕ)) (s : State) : Type 0 where
  pub setting : setting_of s ≡ w
  pub restored : IsRestoredFrom w.watch body s.board s.incarnation
  pub polls : s.poller.polls ≡ no_polls
  pub serial : s.serial ≡ 1
  pub known : (y : ℕ) → known_of s y ≡ None
  pub unmarked : IsUnmarked s.board

-- an opening of this file finds a life that begins from this body: it was saved
abbrev pub FindsBegun : Setting → Option (List ℕ) → List ℕ → Type 0
FindsBegun w body file = (s : State) × IsBegun w body s × FindsState s file

-- in the middle of an opening of this setting that read the one file, an opening of the other meets
-- what an opening of one of these would, or finds the life that begins from the body that was found
abbrev pub FindsOpening : Setting → List ℕ → (List ℕ → Type 0) → List ℕ → Type 0
FindsOpening w read outcomes file = FindsAs outcomes file ⊎ FindsBegun w (found_body read) file

-- What an opening of a station does to its disk, whether it succeeds or not. A crash in the middle
-- of it leaves a file in which an opening meets what it would have met in one of those that a crash
-- might have left before, or finds the life that begins from the body that was found. After it a
-- crash leaves one of those, or an opening always meets what this one met, or finds that life:
-- never an older one.
pub record IsBeginning {D : Type 0} (w : Setting) (G : Ghosts D) (old new : D) : Type 0 where
  pub any_moment : LeavesSince G.moment G.left_since old new
      (FindsOpening w (G.seen old) (G.may_leave old))
  pub settled : Leaves (G.may_leave new) (G.may_leave old) ⊎ Leaves (G.may_leave new)
      (λ c. IsAs c (G.seen old) ⊎ FindsBegun w (found_body (G.seen old)) c)

-- ---- faults
-- why no life begins from this body: it is no image of the watch's instances, or its incarnation is
-- the greatest
abbrev pub IsFaultOfBody : Watch → Option (List ℕ) → StationFault → Type 0
IsFaultOfBody watch body fault.OutOfMemory = Unit {0}
IsFaultOfBody watch body (fault.Image f) =
    (octets : List ℕ) × (body ≡ Some octets) × (image_at (instances_of watch.instances) octets
    ≡ Err f) × ((image : Image) → ¬ (SpellsImage octets (instances_of watch.instances) image))
IsFaultOfBody watch body fault.NoMoreIncarnations = (octets : List ℕ) × (board : Board)
    × (body ≡ Some octets) × IsRestored watch octets board 4294967295
IsFaultOfBody watch body other = ⊥

-- Why an opening of this file was refused: its body, or the keeper. Of the keeper's faults the
-- disk's has its cause in the disk, Damaged is answered only where the file is damaged,
-- NoMoreGenerations only where the greatest generation is found, and no other at all.
abbrev pub IsFaultOfFile : Watch → List ℕ → StationFault → Type 0
IsFaultOfFile watch file (fault.Keeper keeper.DiskFault) = Unit {0}
IsFaultOfFile watch file (fault.Keeper keeper.Damaged) = is_undamaged file ≡ false
IsFaultOfFile watch file (fault.Keeper keeper.NoMoreGenerations) = found_generation
    (found SLOT_SIZE file) ≡ 2 ^ 64 - 1
IsFaultOfFile watch file (fault.Keeper f) = ⊥
IsFaultOfFile watch file other = IsFaultOfBody watch (found_body file) other

-- one of the faults of an opening, whatever the disk is
abbrev pub IsOpeningFault : StationFault → Type 0
IsOpeningFault fault.OutOfMemory = Unit {0}
IsOpeningFault (fault.Keeper keeper.DiskFault) = Unit {0}
IsOpeningFault (fault.Keeper keeper.Damaged) = Unit {0}
IsOpeningFault (fault.Keeper keeper.NoMoreGenerations) = Unit {0}
IsOpeningFault (fault.Image f) = Unit {0}
IsOpeningFault fault.NoMoreIncarnations = Unit {0}
IsOpeningFault other = ⊥

-- an opening was refused for the body that it found
abbrev pub IsForItsBody : StationFault → Type 0
IsForItsBody (fault.Image f) = Unit {0}
IsForItsBody fault.NoMoreIncarnations = Unit {0}
IsForItsBody other = ⊥

-- one of the faults with which a station does not move to a disk: memory runs out, the disk fails,
-- or its file is damaged
abbrev pub IsMovingFault : StationFault → Type 0
IsMovingFault fault.OutOfMemory = Unit {0}
IsMovingFault (fault.Keeper keeper.DiskFault) = Unit {0}
IsMovingFault (fault.Keeper keeper.Damaged) = Unit {0}
IsMovingFault other = ⊥

-- A save is refused if memory runs out, or by the keeper: if the disk failed in it, or at the
-- greatest generation. An image always fits, and a keeper whose disk failed in an earlier save is
-- reopened first.
abbrev pub IsSaveFault : StationFault → Type 0
IsSaveFault fault.OutOfMemory = Unit {0}
IsSaveFault (fault.Keeper keeper.DiskFault) = Unit {0}
IsSaveFault (fault.Keeper keeper.NoMoreGenerations) = Unit {0}
IsSaveFault other = ⊥

-- why a save is refused at a keeper that was just opened, and knew of this generation
abbrev pub IsFirstSaveFault : ℕ → StationFault → Type 0
IsFirstSaveFault generation fault.OutOfMemory = Unit {0}
IsFirstSaveFault generation (fault.Keeper keeper.DiskFault) = Unit {0}
IsFirstSaveFault generation (fault.Keeper keeper.NoMoreGenerations) = generation ≡ 2 ^ 64 - 1
IsFirstSaveFault generation other = ⊥

-- the fault is one of the keeper's
abbrev pub IsOfKeeper : StationFault → Type 0
IsOfKeeper (fault.Keeper f) = Unit {0}
IsOfKeeper other = ⊥

-- the disk's fault is only answered if its count of failures rose, or was at its end
abbrev pub IsCausedBy : (before now : ℕ) → StationFault → Type 0
IsCausedBy before now (fault.Keeper f) = HasDiskCause before now f
IsCausedBy before now other = before ≤ now
