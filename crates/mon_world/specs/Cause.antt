-- Why a station refused a save, a restart or a stop: what its file says of it.
use Rattle.std.specs.Prelude.{ℕ, ◌≡◌, ◌<◌, ◌-◌, ◌^◌, ◌⊎◌, Bool, false, nat_lt, List}
use Rattle.mon_board.specs.Watch.{Watch}
use Rattle.mon_disk.specs.declared.disk.Disk.{Ghosts}
use Rattle.mon_disk.specs.declared.fault.KeeperFault.TheVariants as keeper
use Rattle.mon_disk.specs.declared.file.TheConstants.{SLOT_SIZE}
use Rattle.mon_disk.specs.declared.memory.MemoryDisk.{MemoryDisk}
use Rattle.mon_disk.specs.File.{found}
use Rattle.mon_disk.specs.Keeper.{found_generation, is_undamaged}
use Rattle.mon_disk.specs.Kept.{device_of}
use Rattle.mon_disk.specs.Memory.{memory_failures, memory_octets}
use Rattle.mon_station.specs.declared.fault.StationFault.{StationFault}
use Rattle.mon_station.specs.declared.fault.StationFault.TheVariants as station
use Rattle.mon_station.specs.declared.station.Station.{Station}
use Rattle.mon_station.specs.Saved.{IsFaultOfFile}
use Rattle.mon_world.specs.declared.fault.WorldFault.{WorldFault}
use Rattle.mon_world.specs.declared.fault.WorldFault.TheVariants.{OutOfMemory, Refused}
use Rattle.mon_world.specs.declared.step.Step.{Step}
use Rattle.mon_world.specs.declared.step.Step.TheVariants as step
use Rattle.mon_world.specs.Outcome.{calls_of_save}
use Rattle.mon_world.specs.Places.{HasNumber}
use Rattle.mon_world.specs.Shows.{FindsStopped, state_in}

-- why a save was refused that made this disk of that one: the disk failed, and counted it, or the
-- greatest generation was found
abbrev pub IsFaultOfSave : (old new : MemoryDisk) → StationFault → Type 0
IsFaultOfSave old new (station.Keeper keeper.DiskFault) = (memory_failures old
    < memory_failures new) ⊎ (memory_failures old ≡ 2 ^ 64 - 1)
IsFaultOfSave old new (station.Keeper keeper.NoMoreGenerations) = found_generation
    (found SLOT_SIZE (memory_octets old)) ≡ 2 ^ 64 - 1
IsFaultOfSave old new f = ⊥

-- why an opening of this file was refused, where no disk fails
abbrev pub IsFaultOfCopy : Watch → List ℕ → StationFault → Type 0
IsFaultOfCopy watch file station.OutOfMemory = ⊥
IsFaultOfCopy watch file (station.Keeper keeper.DiskFault) = ⊥
IsFaultOfCopy watch file f = IsFaultOfFile watch file f

-- why no save was started on a copy of this file
abbrev pub IsFaultOfBeginning : List ℕ → StationFault → Type 0
IsFaultOfBeginning file station.OutOfMemory = Unit {0}
IsFaultOfBeginning file (station.Keeper keeper.Damaged) = is_undamaged file ≡ false
IsFaultOfBeginning file (station.Keeper keeper.NoMoreGenerations) = found_generation
    (found SLOT_SIZE file) ≡ 2 ^ 64 - 1
IsFaultOfBeginning file f = ⊥

-- why an opening of this file was refused, as the world's fault
abbrev pub IsFaultOfReopening : Watch → List ℕ → WorldFault → Type 0
IsFaultOfReopening watch file OutOfMemory = Unit {0}
IsFaultOfReopening watch file (Refused f) = IsFaultOfCopy watch file f
IsFaultOfReopening watch file f = ⊥

-- if a station refused, it was for such a reason
abbrev pub IsForReason : (StationFault → Type 0) → WorldFault → Type 0
IsForReason P (Refused f) = P f
IsForReason P f = Unit {0}

module _ {G : Ghosts MemoryDisk} where
  -- the disk of a station
  abbrev disk_of : Station MemoryDisk G → MemoryDisk
  disk_of s = device_of s.keeper

  -- if the station of this number refused a save, it was for its disk
  abbrev pub IsSaveReason : ℕ → (old new : List (Station MemoryDisk G)) → WorldFault → Type 0
  IsSaveReason s old new =
      IsForReason (λ f. (one other : Station MemoryDisk G) × HasNumber old s one
      × HasNumber new s other × IsFaultOfSave (disk_of one) (disk_of other) f)

  -- if it was not restarted, it was for its file
  abbrev pub IsRestartReason : ℕ → Watch → List (Station MemoryDisk G) → WorldFault → Type 0
  IsRestartReason s watch old = IsForReason (λ f. (one : Station MemoryDisk G) × HasNumber old s one
      × IsFaultOfCopy watch (memory_octets (disk_of one)) f)

  -- if it was not stopped within a save, its file could not be saved, or what the stop left of it
  -- not be opened
  abbrev pub IsStopReason : (s calls : ℕ) (keep : Bool) → Watch → List (Station MemoryDisk G)
      → WorldFault → Type 0
  IsStopReason s calls keep watch old = IsForReason (λ f. (one : Station MemoryDisk G)
      × HasNumber old s one × (IsFaultOfBeginning (memory_octets (disk_of one)) f
      ⊎ ((left : List ℕ) × FindsStopped (nat_lt calls (calls_of_save keep)) (state_in one)
      (memory_octets (disk_of one)) left × IsFaultOfCopy watch left f)))

  -- the reason of a step's refusal in the file of its station; other events say theirs in the moves
  abbrev pub IsFileReason : Watch → (old new : List (Station MemoryDisk G)) → Step → WorldFault
      → Type 0
  IsFileReason watch old new (step.Save s) f = IsSaveReason s old new f
  IsFileReason watch old new (step.Restart s) f = IsRestartReason s watch old f
  IsFileReason watch old new (step.Stop s calls keep) f = IsStopReason s calls keep watch old f
  IsFileReason watch old new step f = Unit {0}
