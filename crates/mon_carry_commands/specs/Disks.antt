-- What the system gives when a station's file is opened as a disk.
use Rattle.std.specs.Prelude.{◌≡◌, ◌⊎◌, None, Result, Ok, Err}
use Rattle.std.specs.declared.fs.locks.TryLockError.{TryLockError}
use Rattle.std.specs.declared.io.Error.{Error}
use Rattle.mon_disk.specs.FileDisk.{failures_of, file_under, last_error_of}
use Rattle.mon_disk.specs.OpenFault.{IsLocked, IsUnlocked, IsUnsynced}
use Rattle.mon_disk.specs.declared.file_disk.DiskOver.{DiskOver}
use Rattle.mon_disk.specs.declared.open_fault.OpenFault.{OpenFault}

-- The system opened a file and gave its lock, and then synced its folder: the disk is over this
-- file, and no call of it has failed. Or the file was not opened or not locked, or its folder was
-- not synced: the fault is the system's.
abbrev pub IsDiskGiven : {F : Type 0} → (opened : Result F Error → Type 0)
    → (locked : F → Result Unit TryLockError → F → Type 0) → (synced : Result Unit Error → Type 0)
    → Result (DiskOver F) OpenFault → Type 0
IsDiskGiven opened locked synced (Ok disk) = IsLocked opened locked (file_under disk)
    × synced (Ok tt) × (failures_of disk ≡ 0) × (last_error_of disk ≡ None)
IsDiskGiven opened locked synced (Err fault) =
    IsUnlocked opened locked fault ⊎ IsUnsynced synced fault
