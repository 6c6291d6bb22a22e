-- What contracts see of a disk over a file.
use Rattle.std.specs.Prelude.{ℕ, Option, Result}
use Rattle.std.specs.declared.io.Error.{Error}
use Rattle.mon_disk.specs.SystemFile.{IsPassedOn}
use Rattle.mon_disk.specs.declared.file_disk.DiskOver.{DiskOver}

-- the file under the disk
abbrev pub file_under : {F : Type 0} → DiskOver F → F
file_under f = f.file

-- how often a call of it has failed
abbrev pub failures_of : {F : Type 0} → DiskOver F → ℕ
failures_of f = f.failures

-- why the last call of it that failed did, if one has
abbrev pub last_error_of : {F : Type 0} → DiskOver F → Option Error
last_error_of f = f.last_error

-- The disk before its one call, the disk after it, the system's answer, and what the disk answers:
-- a value is passed on, and an error is counted and kept.
abbrev pub IsAnswered : {F T E : Type 0} → DiskOver F → DiskOver F
    → Result T Error → Result T E → Type 0
IsAnswered old new answer result =
    IsPassedOn answer old.failures new.failures old.last_error new.last_error result
