-- The faults of a world, and why a step has one.
use Rattle.std.specs.Prelude.{ℕ, List, codes, ◌≤◌, ◌<◌, Option, Some, None}
use Rattle.mon_disk.specs.declared.fault.KeeperFault.{KeeperFault}
use Rattle.mon_disk.specs.declared.fault.KeeperFault.TheVariants as keeper
use Rattle.mon_station.specs.declared.fault.StationFault.{StationFault}
use Rattle.mon_station.specs.declared.fault.StationFault.TheVariants as station
use Rattle.mon_station.specs.Fault as stations
use Rattle.mon_world.specs.declared.fault.WorldFault.{WorldFault}
use Rattle.mon_world.specs.declared.fault.WorldFault.TheVariants.{OutOfMemory, NoSuchStation}
use Rattle.mon_world.specs.declared.fault.WorldFault.TheVariants.{NoSuchDatagram, Refused, BadCount}
use Rattle.mon_world.specs.declared.fault.WorldFault.TheVariants.{BadStop}
use Rattle.mon_world.specs.declared.step.Step.{Step}
use Rattle.mon_world.specs.declared.step.Step.TheVariants as step
use Rattle.mon_world.specs.Places.{IsNoCount, IsNumberTo, IsNoNumberTo}

-- the number of a fault
abbrev pub number_of : WorldFault → ℕ
number_of OutOfMemory = 1
number_of NoSuchStation = 2
number_of NoSuchDatagram = 3
number_of (Refused f) = 4
number_of BadCount = 5
number_of BadStop = 6

-- the name of a fault
abbrev pub name_of : WorldFault → List ℕ
name_of OutOfMemory = codes "OutOfMemory"
name_of NoSuchStation = codes "NoSuchStation"
name_of NoSuchDatagram = codes "NoSuchDatagram"
name_of (Refused f) = codes "Refused"
name_of BadCount = codes "BadCount"
name_of BadStop = codes "BadStop"

-- the innermost fault: the station's, where a station refused
abbrev pub innermost_of : WorldFault → stations.Told
innermost_of (Refused f) = stations.innermost_of f
innermost_of f = record { part = codes "mon_world"; number = number_of f; name = name_of f }

-- a station's fault as the world's: its lack of memory is the world's own
abbrev pub station_refusal : StationFault → WorldFault
station_refusal station.OutOfMemory = OutOfMemory
station_refusal f = Refused f

-- the fault of a keeper over a copy in memory: its disk fails only where memory is refused
abbrev pub copy_fault : KeeperFault → StationFault
copy_fault keeper.OutOfMemory = station.OutOfMemory
copy_fault keeper.DiskFault = station.OutOfMemory
copy_fault f = station.Keeper f

-- the fault with which a station refused, where it was a station
abbrev pub refusal_in : WorldFault → Option StationFault
refusal_in (Refused f) = Some f
refusal_in f = None

-- why a world of this many stations was not opened
abbrev pub IsFaultOfNew : ℕ → WorldFault → Type 0
IsFaultOfNew count OutOfMemory = Unit {0}
IsFaultOfNew count BadCount = IsNoCount count
IsFaultOfNew count f = ⊥

-- what a step names is there, of this many stations and datagrams
abbrev pub IsThere : (stations datagrams : ℕ) → Step → Type 0
IsThere n m (step.StartPoll s t) = IsNumberTo n s
IsThere n m (step.AgentSays s t octets) = IsNumberTo n s
IsThere n m (step.Timeout s id) = IsNumberTo n s
IsThere n m (step.Share s peer) = IsNumberTo n s
IsThere n m (step.Deliver d) = IsNumberTo m d
IsThere n m (step.Save s) = IsNumberTo n s
IsThere n m (step.Restart s) = IsNumberTo n s
IsThere n m (step.Forge s octets) = IsNumberTo n s
IsThere n m (step.Stop s calls keep) = IsNumberTo n s × (calls ≤ 6)

-- a station refused for another reason than memory
abbrev pub IsRefusal : StationFault → Type 0
IsRefusal station.OutOfMemory = ⊥
IsRefusal f = Unit {0}

-- a station refused a save: its disk failed, or there is no generation left
abbrev pub IsSaveRefusal : StationFault → Type 0
IsSaveRefusal (station.Keeper keeper.DiskFault) = Unit {0}
IsSaveRefusal (station.Keeper keeper.NoMoreGenerations) = Unit {0}
IsSaveRefusal f = ⊥

-- A station was not opened from a disk in memory, or no save was started on a copy of it. Such a
-- disk only fails where memory is refused.
abbrev pub IsOpeningRefusal : StationFault → Type 0
IsOpeningRefusal (station.Keeper keeper.Damaged) = Unit {0}
IsOpeningRefusal (station.Keeper keeper.NoMoreGenerations) = Unit {0}
IsOpeningRefusal (station.Image f) = Unit {0}
IsOpeningRefusal station.NoMoreIncarnations = Unit {0}
IsOpeningRefusal f = ⊥

-- why an event at the station of this number has a fault
abbrev pub IsStationCause : ℕ → ℕ → WorldFault → Type 0
IsStationCause n s OutOfMemory = Unit {0}
IsStationCause n s NoSuchStation = IsNoNumberTo n s
IsStationCause n s (Refused f) = IsNumberTo n s × IsRefusal f
IsStationCause n s f = ⊥

-- why a save of the station of this number has a fault
abbrev pub IsSaveCause : ℕ → ℕ → WorldFault → Type 0
IsSaveCause n s OutOfMemory = Unit {0}
IsSaveCause n s NoSuchStation = IsNoNumberTo n s
IsSaveCause n s (Refused f) = IsNumberTo n s × IsSaveRefusal f
IsSaveCause n s f = ⊥

-- why a restart of the station of this number has a fault
abbrev pub IsRestartCause : ℕ → ℕ → WorldFault → Type 0
IsRestartCause n s OutOfMemory = Unit {0}
IsRestartCause n s NoSuchStation = IsNoNumberTo n s
IsRestartCause n s (Refused f) = IsNumberTo n s × IsOpeningRefusal f
IsRestartCause n s f = ⊥

-- why the delivery of the datagram of this number has a fault
abbrev pub IsDeliveryCause : ℕ → ℕ → WorldFault → Type 0
IsDeliveryCause m d OutOfMemory = Unit {0}
IsDeliveryCause m d NoSuchDatagram = IsNoNumberTo m d
IsDeliveryCause m d (Refused f) = IsNumberTo m d × IsRefusal f
IsDeliveryCause m d f = ⊥

-- why a stop of the station of this number has a fault
abbrev pub IsStopCause : ℕ → ℕ → ℕ → WorldFault → Type 0
IsStopCause n s calls OutOfMemory = Unit {0}
IsStopCause n s calls NoSuchStation = IsNoNumberTo n s
IsStopCause n s calls (Refused f) = IsNumberTo n s × (calls ≤ 6) × IsOpeningRefusal f
IsStopCause n s calls BadStop = IsNumberTo n s × (6 < calls)
IsStopCause n s calls f = ⊥

-- why a step has a fault, of this many stations and datagrams
abbrev pub IsCause : (stations datagrams : ℕ) → Step → WorldFault → Type 0
IsCause n m (step.StartPoll s t) f = IsStationCause n s f
IsCause n m (step.AgentSays s t octets) f = IsStationCause n s f
IsCause n m (step.Timeout s id) f = IsStationCause n s f
IsCause n m (step.Share s peer) f = IsStationCause n s f
IsCause n m (step.Deliver d) f = IsDeliveryCause m d f
IsCause n m (step.Save s) f = IsSaveCause n s f
IsCause n m (step.Restart s) f = IsRestartCause n s f
IsCause n m (step.Forge s octets) f = IsStationCause n s f
IsCause n m (step.Stop s calls keep) f = IsStopCause n s calls f
