-- Stations that a refused step left as they were.
use Rattle.std.proofs.Common.{ℕ, zero, suc, ◌≡◌, ◌+◌, inl, inr, List, Result, Ok, Err, refl, sym, ap, subst, ◌∙◌}
use Rattle.std.specs.Prelude.{IfErr, OnErr, slice_set}
use Rattle.mon_disk.specs.declared.disk.Disk.{Ghosts}
use Rattle.mon_disk.specs.declared.fault.KeeperFault.TheVariants as keeper
use Rattle.mon_disk.specs.declared.memory.MemoryDisk.{MemoryDisk}
use Rattle.mon_station.specs.declared.fault.StationFault.{StationFault}
use Rattle.mon_station.specs.declared.fault.StationFault.TheVariants as station
use Rattle.mon_station.specs.declared.station.Station.{Station}
use Rattle.mon_station.specs.Step.{left_polls}
use Rattle.mon_world.specs.declared.fault.WorldFault.{WorldFault}
use Rattle.mon_world.specs.declared.fault.WorldFault.TheVariants.{OutOfMemory}
use Rattle.mon_world.specs.Fault.{station_refusal}
use Rattle.mon_world.specs.Kept.{AreKept, IsKept}
use Rattle.mon_world.specs.Places.{HasNumber}
use Rattle.mon_world.specs.Shows.{state_in}
use Rattle.mon_world.proofs.Lives.{some_same}
use Rattle.mon_world.proofs.Stations.{number_set}

-- the station of a number is one
one_station : {G : Ghosts MemoryDisk} (stations : List (Station MemoryDisk G)) (x : ℕ) (s t : Station MemoryDisk G) → HasNumber stations x s → HasNumber stations x t → t ≡ s
one_station stations zero s t here there = absurd here
one_station stations (suc n) s t here there = some_same (sym there ∙ here)

still : {G : Ghosts MemoryDisk} (f : WorldFault) (s t : Station MemoryDisk G) → t ≡ s → IsKept f s t
still f s t same = subst (λ u. IsKept f s u) (sym same) (record { state = refl; disk = λ _. refl; memory = λ _. refl })

-- the stations stay
pub kept_same : {G : Ghosts MemoryDisk} (old new : List (Station MemoryDisk G)) (f : WorldFault) → new ≡ old → AreKept old new f
kept_same old new f same x s t here there = still f s t (one_station old x s t here (subst (λ l. HasNumber l x t) same there))

-- the stations stay if a call failed
pub kept_on : {A : Type 0} {G : Ghosts MemoryDisk} (r : Result A WorldFault) (old new : List (Station MemoryDisk G)) → OnErr r (new ≡ old) → IfErr r (AreKept old new)
kept_on (Ok x) old new same = tt
kept_on (Err f) old new same = kept_same old new f same

-- the world's lack of memory is the station's
own_memory : (f : StationFault) → station_refusal f ≡ OutOfMemory → f ≡ station.OutOfMemory
own_memory station.OutOfMemory e = refl
own_memory (station.Poll f) e = cc
own_memory (station.Response f) e = cc
own_memory (station.Exchange f) e = cc
own_memory (station.Keeper f) e = cc
own_memory (station.Image f) e = cc
own_memory station.NoMoreIncarnations e = cc

-- a station that refused an event
pub kept_step : {G : Ghosts MemoryDisk} (stations : List (Station MemoryDisk G)) (place : ℕ) (old new : Station MemoryDisk G) (f : StationFault) → HasNumber stations (place + 1) old
    → state_in new ≡ left_polls (state_in old) (state_in new).poller.polls → ((f ≡ station.Keeper keeper.DiskFault → ⊥) → new.keeper ≡ old.keeper) → (f ≡ station.OutOfMemory → state_in new ≡ state_in old)
    → AreKept stations (slice_set stations place new) (station_refusal f)
kept_step stations place old new f at state disk memory x s t here there = elim (number_set stations place x new t there) [
  | inl is ↦
      let was : s ≡ old = one_station stations (place + 1) old s at (subst (λ y. HasNumber stations y s) is.0 here) in
      subst (λ u. IsKept (station_refusal f) u t) (sym was) (subst (λ u. IsKept (station_refusal f) old u) (sym is.1) (record {
        state = state;
        disk = λ other. disk (λ e. other (ap station_refusal e));
        memory = λ e. memory (own_memory f e);
      }))
  | inr other ↦ still (station_refusal f) s t (one_station stations x s t here other.1)
]
