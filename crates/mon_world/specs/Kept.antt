-- What a refused step leaves as it was.
use Rattle.std.specs.Prelude.{ℕ, ◌≡◌, List}
use Rattle.mon_disk.specs.declared.disk.Disk.{Ghosts}
use Rattle.mon_disk.specs.declared.fault.KeeperFault.TheVariants as keeper
use Rattle.mon_disk.specs.declared.memory.MemoryDisk.{MemoryDisk}
use Rattle.mon_station.specs.declared.fault.StationFault.TheVariants as station
use Rattle.mon_station.specs.declared.station.Station.{Station}
use Rattle.mon_station.specs.Step.{left_polls}
use Rattle.mon_world.specs.declared.fault.WorldFault.{WorldFault}
use Rattle.mon_world.specs.declared.fault.WorldFault.TheVariants.{OutOfMemory, Refused}
use Rattle.mon_world.specs.Places.{HasNumber}
use Rattle.mon_world.specs.Shows.{state_in}

-- With this fault a station stayed as it was, except that a response may have ended its poll: its
-- windows, marks, known incarnations, incarnation and serial. Its disk is as it was unless a save
-- met the disk's fault, and out of memory left the polls too.
pub record IsKept {G : Ghosts MemoryDisk} (f : WorldFault) (old new : Station MemoryDisk G) : Type 0
  where
    pub state : state_in new ≡ left_polls (state_in old) (state_in new).poller.polls
    pub disk : (f ≡ Refused (station.Keeper keeper.DiskFault) → ⊥) → new.keeper ≡ old.keeper
    pub memory : f ≡ OutOfMemory → state_in new ≡ state_in old

-- with this fault every station was
abbrev pub AreKept : {G : Ghosts MemoryDisk} → List (Station MemoryDisk G)
    → List (Station MemoryDisk G) → WorldFault → Type 0
AreKept {G} old new f = (x : ℕ) (s t : Station MemoryDisk G) → HasNumber old x s → HasNumber new x t
    → IsKept f s t
