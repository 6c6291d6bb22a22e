-- The first save of a station's file, and how it fails.
use Rattle.std.specs.Prelude.{◌≡◌, ◌⊎◌, ◌++◌, ℕ, Bool, true, false, List, Result, Ok, IfErr, codes}
use Rattle.std.specs.IoError.{error_kind}
use Rattle.mon_board.specs.Board.{Board}
use Rattle.mon_carry.specs.declared.fault.CarryFault.{CarryFault}
use Rattle.mon_console.specs.Failure.{HasLine, IsOfStream}
use Rattle.mon_console.specs.declared.failure.Failure.{Failure}
use Rattle.mon_disk.specs.declared.open_fault.OpenFault.{OpenFault}
use Rattle.mon_disk.specs.declared.open_fault.OpenFault.TheVariants.{InUse, System}
use Rattle.mon_host.specs.Reason.{Why}
use Rattle.mon_carry_commands.specs.Faults.{HasLineOf, IsOfCarry}
use Rattle.mon_carry_commands.specs.declared.load.Load.{Load}

-- The failure of a station's file that could not be opened: it is in use; or the system's error,
-- with a reason of its kind.
abbrev pub IsOfFile : (path : List ℕ) → OpenFault → Failure → Type 0
IsOfFile path InUse failure = HasLineOf (codes "mon_disk") 7 (codes "InUse") failure.fault
    × HasLine (path ++ codes ": another process has the file open as a station's") failure.more
    × (failure.is_cut ≡ false)
IsOfFile path (System error) failure =
    (reason : Why) × (reason.kind ≡ error_kind error) × IsOfStream path reason failure

-- The file at a path was not opened, or not saved, for some fault.
abbrev pub IsUnsaved : (path : List ℕ) → Failure → Type 0
IsUnsaved path failure = ((fault : OpenFault) × IsOfFile path fault failure)
    ⊎ ((fault : CarryFault) × IsOfCarry fault failure)

-- What was answered to the call that saves windows with an incarnation as the first ones of the
-- file at a path. No log has it: only the call shows it.
abbrev pub Saved : Type 1
Saved = (path : List ℕ) → Board → (incarnation : ℕ) → Result Unit Failure → Type 0

-- the call that saves what is carried in the file at a path was made, and what it answered
pub record IsSaving (saved : Saved) (path : List ℕ) (load : Load)
    (result : Result Unit Failure) : Type 0 where
  pub asked : saved path load.board load.incarnation result
  pub unsaved : IfErr result (IsUnsaved path)

-- what is carried is saved in the file at a path, unless nothing may be written
abbrev pub IsSavingUnless : Saved → (skips : Bool) (path : List ℕ) → Load → Result Unit Failure
    → Type 0
IsSavingUnless saved true path load result = result ≡ Ok tt
IsSavingUnless saved false path load result = IsSaving saved path load result
