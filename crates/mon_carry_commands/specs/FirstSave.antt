-- The first save of a station's file, on a disk that was opened at the file's path.
use Rattle.std.specs.Prelude.{◌≡◌, ◌⊎◌, ℕ, List, None, Result, Ok, Err}
use Rattle.mon_board.specs.Board.{Board}
use Rattle.mon_carry.specs.Fault.{IsCausedBy, IsFaultOfNew, IsRefused}
use Rattle.mon_carry.specs.Files.{FindsFirst, FindsImage, FindsNothingOr}
use Rattle.mon_carry.specs.declared.fault.CarryFault.{CarryFault}
use Rattle.mon_carry.specs.declared.fault.CarryFault.TheVariants.{AlreadySaved}
use Rattle.mon_console.specs.declared.failure.Failure.{Failure}
use Rattle.mon_disk.specs.Disk.{Leaves, LeavesSince}
use Rattle.mon_disk.specs.Keeper.{FindsBody, IsOpening, found_body}
use Rattle.mon_disk.specs.declared.disk.Disk.{Ghosts}
use Rattle.mon_disk.specs.declared.open_fault.OpenFault.{OpenFault}
use Rattle.mon_carry_commands.specs.Faults.{IsOfCarry}
use Rattle.mon_carry_commands.specs.Saving.{IsOfFile}

-- What a crash during a first save may leave on an honest disk, whether the save succeeds or not:
-- what an opening takes for one of the files before, or a file in which the image is found. If all
-- files before held no save, it is a file without a save, or with the image.
pub record IsSafe {D : Type 0} (G : Ghosts D) (board : Board) (incarnation : ℕ)
    (old new : D) : Type 0 where
  pub any_moment : LeavesSince G.moment G.left_since old new
      (FindsFirst (G.may_leave old) board incarnation)
  pub whole : Leaves (G.may_leave old) (FindsBody None)
      → LeavesSince G.moment G.left_since old new (FindsNothingOr board incarnation)

-- What a first save did to an honest disk: no save was found on it, and from then on each crash
-- leaves a file in which the image of these windows and this incarnation is found.
pub record IsSavedOn {D : Type 0} (G : Ghosts D) (board : Board) (incarnation : ℕ)
    (old new : D) : Type 0 where
  pub fresh : FindsBody None (G.seen old)
  pub kept : Leaves (G.may_leave new) (FindsImage board incarnation)
  pub safe : IsSafe G board incarnation old new
  pub stays : G.is_honest new

-- What a first save that was refused did to an honest disk. A disk that holds a save, or is
-- damaged, was only opened, and a save that it holds is still found.
pub record IsRefusedOn {D : Type 0} (G : Ghosts D) (board : Board) (incarnation : ℕ)
    (fault : CarryFault) (old new : D) : Type 0 where
  pub of_new : IsFaultOfNew (G.seen old) fault
  pub untouched : IsRefused fault → IsOpening G.seen G.may_leave G.moment G.left_since old new
  pub found_still : fault ≡ AlreadySaved
      → Leaves (G.may_leave new) (FindsBody (found_body (G.seen old)))
  pub safe : IsSafe G board incarnation old new
  pub stays : G.is_honest new

-- A disk was opened, and windows with an incarnation were saved on it as the first ones.
pub record IsFirstSave {D : Type 0} (G : Ghosts D) (opened : Result D OpenFault → Type 0)
    (board : Board) (incarnation : ℕ) : Type 0 where
  pub before : D
  pub after : D
  pub opened_is : opened (Ok before)
  pub saved : G.is_honest before → IsSavedOn G board incarnation before after

-- A disk was opened, but the first save on it was refused, for a fault that the failure names. It
-- is the disk's fault only if its count of failures rose.
pub record IsRefusedSave {D : Type 0} (G : Ghosts D) (opened : Result D OpenFault → Type 0)
    (board : Board) (incarnation : ℕ) (failure : Failure) : Type 0 where
  pub before : D
  pub after : D
  pub fault : CarryFault
  pub opened_is : opened (Ok before)
  pub refused : G.is_honest before → IsRefusedOn G board incarnation fault before after
  pub caused : IsCausedBy (G.faults before) (G.faults after) fault
  pub failure_is : IsOfCarry fault failure

-- no disk was opened at a path, for a fault that the failure names
abbrev pub IsUnopened : {D : Type 0} → (opened : Result D OpenFault → Type 0) → (path : List ℕ)
    → Failure → Type 0
IsUnopened opened path failure =
    (fault : OpenFault) × opened (Err fault) × IsOfFile path fault failure

-- What saving windows as the first ones of the file at a path did, by disks that are opened there:
-- they were saved on the disk that was opened at this path; or none was opened; or the save on it
-- was refused.
abbrev pub IsSave : {D : Type 0} → (G : Ghosts D)
    → (opened : (path : List ℕ) → Result D OpenFault → Type 0) → (path : List ℕ) → Board
    → (incarnation : ℕ) → Result Unit Failure → Type 0
IsSave G opened path board incarnation (Ok done) = IsFirstSave G (opened path) board incarnation
IsSave G opened path board incarnation (Err failure) = IsUnopened (opened path) path failure
    ⊎ IsRefusedSave G (opened path) board incarnation failure
