-- Why a file could not be opened as a disk.
use Rattle.std.specs.Prelude.{◌≡◌, ◌⊎◌, Result, Ok, Err}
use Rattle.std.specs.declared.io.Error.{Error}
use Rattle.std.specs.declared.fs.locks.TryLockError.{TryLockError}
use Rattle.std.specs.declared.fs.locks.TryLockError.TheVariants as lock
use Rattle.mon_disk.specs.declared.open_fault.OpenFault.{OpenFault}
use Rattle.mon_disk.specs.declared.open_fault.OpenFault.TheVariants.{InUse, System}

-- why a lock was refused, as an opening's fault: another open file has it, or the system's error
abbrev pub of_lock : TryLockError → OpenFault
of_lock lock.WouldBlock = InUse
of_lock (lock.Error error) = System error

-- The system opened the file, and the file then gave its lock. What the lock left is the file.
abbrev pub IsLocked : {F : Type 0} → (Result F Error → Type 0)
    → (F → Result Unit TryLockError → F → Type 0) → F → Type 0
IsLocked {F} opened locked file = (before : F) × opened (Ok before) × locked before (Ok tt) file

-- An opening was refused: the system did not open the file, or opened it and refused its lock.
abbrev pub IsUnlocked : {F : Type 0} → (Result F Error → Type 0)
    → (F → Result Unit TryLockError → F → Type 0) → OpenFault → Type 0
IsUnlocked {F} opened locked fault =
    ((error : Error) × opened (Err error) × (fault ≡ System error))
    ⊎ ((before : F) × (file : F) × (error : TryLockError)
    × opened (Ok before) × locked before (Err error) file × (fault ≡ of_lock error))

-- the folder could not be synced
abbrev pub IsUnsynced : (Result Unit Error → Type 0) → OpenFault → Type 0
IsUnsynced synced fault = (error : Error) × synced (Err error) × (fault ≡ System error)
