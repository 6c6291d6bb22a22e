-- The faults of carrying windows from one file to another.
use Rattle.std.specs.Prelude.{ℕ, ◌≡◌, ◌≤◌, ◌-◌, ◌^◌, false, List, Option, Some, Err}
use Rattle.mon_board.specs.Instance.{instances_of}
use Rattle.mon_board.specs.Watch.{Watch}
use Rattle.mon_disk.specs.Fault.{HasDiskCause}
use Rattle.mon_disk.specs.Keeper.{found_body, is_undamaged}
use Rattle.mon_disk.specs.declared.fault.KeeperFault.{KeeperFault}
use Rattle.mon_disk.specs.declared.fault.KeeperFault.TheVariants as keeper
use Rattle.mon_saved.specs.Image.{SpellsImage}
use Rattle.mon_saved.specs.Reading.{image_at}
use Rattle.mon_saved.specs.declared.fault.ImageFault.{ImageFault}
use Rattle.mon_saved.specs.declared.fault.ImageFault.TheVariants as image
use Rattle.mon_saved.specs.declared.image.Image.{Image as AnyImage}
use Rattle.mon_carry.specs.declared.fault.CarryFault.{CarryFault}
use Rattle.mon_carry.specs.declared.fault.CarryFault.TheVariants.{OutOfMemory, Keeper}
use Rattle.mon_carry.specs.declared.fault.CarryFault.TheVariants.{Image, AlreadySaved}

-- a fault of the keeper: its lack of memory is one of this crate
abbrev pub keeper_refusal : KeeperFault → CarryFault
keeper_refusal keeper.OutOfMemory = OutOfMemory
keeper_refusal f = Keeper f

-- a fault of an image, the same way
abbrev pub image_refusal : ImageFault → CarryFault
image_refusal image.OutOfMemory = OutOfMemory
image_refusal f = Image f

-- a fault over a disk in memory, which only fails if memory runs out
abbrev pub in_memory : CarryFault → CarryFault
in_memory (Keeper keeper.DiskFault) = OutOfMemory
in_memory f = f

-- why a body has no windows: it is no image of the watch's instances
abbrev pub IsFaultOfBody : Watch → Option (List ℕ) → CarryFault → Type 0
IsFaultOfBody watch body OutOfMemory = Unit {0}
IsFaultOfBody watch body (Image f) =
    (octets : List ℕ) × (body ≡ Some octets)
    × (image_at (instances_of watch.instances) octets ≡ Err f)
    × ((any : AnyImage) → ¬ (SpellsImage octets (instances_of watch.instances) any))
IsFaultOfBody watch body other = ⊥

-- why an old file has no windows: it is damaged, or what it holds is no image of the watch's
-- instances
abbrev pub IsFaultOfOld : Watch → List ℕ → CarryFault → Type 0
IsFaultOfOld watch file (Keeper keeper.Damaged) = is_undamaged file ≡ false
IsFaultOfOld watch file (Keeper f) = ⊥
IsFaultOfOld watch file other = IsFaultOfBody watch (found_body file) other

-- why no first save was made in a file: the disk failed, the file is damaged, or a save
-- is found in it
abbrev pub IsFaultOfNew : List ℕ → CarryFault → Type 0
IsFaultOfNew file OutOfMemory = Unit {0}
IsFaultOfNew file (Keeper keeper.DiskFault) = Unit {0}
IsFaultOfNew file (Keeper keeper.Damaged) = is_undamaged file ≡ false
IsFaultOfNew file AlreadySaved = (body : List ℕ) × (found_body file ≡ Some body)
IsFaultOfNew file other = ⊥

-- the disk's fault is only returned if its count of failures rose, or was at its end
abbrev pub IsCausedBy : (before now : ℕ) → CarryFault → Type 0
IsCausedBy before now (Keeper f) = HasDiskCause before now f
IsCausedBy before now other = before ≤ now

-- a save was refused for what was found in the file
abbrev pub IsRefused : CarryFault → Type 0
IsRefused (Keeper keeper.Damaged) = Unit {0}
IsRefused AlreadySaved = Unit {0}
IsRefused other = ⊥

-- why a save is refused at a keeper that was just opened, and knew of this generation
abbrev pub IsSaveFault : ℕ → CarryFault → Type 0
IsSaveFault generation OutOfMemory = Unit {0}
IsSaveFault generation (Keeper keeper.DiskFault) = Unit {0}
IsSaveFault generation (Keeper keeper.NoMoreGenerations) = generation ≡ 2 ^ 64 - 1
IsSaveFault generation other = ⊥
