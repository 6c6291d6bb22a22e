-- The windows that a disk holds.
use Rattle.std.specs.Prelude.{ℕ, ◌≡◌, false, List, Option, Some, None}
use Rattle.std.specs.FinSet as set
use Rattle.mon_board.specs.Board.{Board, window_of}
use Rattle.mon_board.specs.Instance.{instances_of}
use Rattle.mon_board.specs.Watch.{Watch}
use Rattle.mon_board.specs.Windows.{window}
use Rattle.mon_disk.specs.declared.fault.KeeperFault.TheVariants as keeper
use Rattle.mon_disk.specs.Keeper.{found_body, is_undamaged}
use Rattle.mon_saved.specs.declared.image.Image.{Image}
use Rattle.mon_saved.specs.Image.{SpellsImage}
use Rattle.mon_saved.specs.Restored.{saved_pairs}
use Rattle.mon_window.specs.Window.{Samples}
use Rattle.mon_station.specs.declared.fault.StationFault.{StationFault}
use Rattle.mon_station.specs.declared.fault.StationFault.TheVariants as fault
use Rattle.mon_station.specs.Saved.{IsFaultOfBody}

-- the windows of a body under a watch: empty ones if there is no body, else what the watch keeps of
-- the image that it spells
abbrev pub FindsWindows : Watch → Option (List ℕ) → (ℕ → Samples) → Type 0
FindsWindows watch None windows = (i : ℕ) → windows i ≡ set.empty
FindsWindows watch (Some octets) windows =
    (image : Image) × SpellsImage octets (instances_of watch.instances) image
    × ((i : ℕ) → windows i ≡ window watch (saved_pairs image) i)

-- a board has the watch and the windows of a body
pub record IsBoardOf (watch : Watch) (body : Option (List ℕ)) (board : Board) : Type 0 where
  pub watched : board.watch ≡ watch
  pub found : FindsWindows watch body (window_of board)

-- why a body has no windows: it is no image of the watch's instances
abbrev pub IsFaultOfImage : Watch → Option (List ℕ) → StationFault → Type 0
IsFaultOfImage watch body fault.NoMoreIncarnations = ⊥
IsFaultOfImage watch body other = IsFaultOfBody watch body other

-- Why a file has no windows: its body, or the keeper. Of the keeper's faults the disk's has its
-- cause in the disk, Damaged is answered only where the file is damaged, and no other at all.
abbrev pub IsFaultOfFound : Watch → List ℕ → StationFault → Type 0
IsFaultOfFound watch file (fault.Keeper keeper.DiskFault) = Unit {0}
IsFaultOfFound watch file (fault.Keeper keeper.Damaged) = is_undamaged file ≡ false
IsFaultOfFound watch file (fault.Keeper f) = ⊥
IsFaultOfFound watch file other = IsFaultOfImage watch (found_body file) other

-- an opening found this board of a file that was read into memory, where no disk fails
abbrev pub IsFaultOfOctets : Watch → List ℕ → StationFault → Type 0
IsFaultOfOctets watch file (fault.Keeper keeper.DiskFault) = ⊥
IsFaultOfOctets watch file other = IsFaultOfFound watch file other

-- a fault over a disk in memory, which only fails if memory runs out
abbrev pub in_memory : StationFault → StationFault
in_memory (fault.Keeper keeper.DiskFault) = fault.OutOfMemory
in_memory other = other

-- one of the faults with which windows are not found, whatever the disk is
abbrev pub IsFindingFault : StationFault → Type 0
IsFindingFault fault.OutOfMemory = Unit {0}
IsFindingFault (fault.Keeper keeper.DiskFault) = Unit {0}
IsFindingFault (fault.Keeper keeper.Damaged) = Unit {0}
IsFindingFault (fault.Image f) = Unit {0}
IsFindingFault other = ⊥
