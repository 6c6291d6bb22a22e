-- Causes of faults, from what a station says.
use Rattle.std.proofs.Common.{ℕ, ◌≡◌, ◌≤◌, ◌+◌, ◌-◌, ◌^◌, ◌∙◌, true, false, List, length, Result, Ok, Err, refl, sym, ap, subst, arith}
use Rattle.std.specs.Prelude.{IfErr}
use Rattle.mon_board.specs.Watch.{Watch}
use Rattle.mon_disk.specs.declared.disk.Disk.{Ghosts}
use Rattle.mon_disk.specs.declared.fault.KeeperFault.{KeeperFault}
use Rattle.mon_disk.specs.declared.fault.KeeperFault.TheVariants as keeper
use Rattle.mon_disk.specs.declared.file.TheConstants.{SLOT_SIZE}
use Rattle.mon_disk.specs.declared.memory.MemoryDisk.{MemoryDisk}
use Rattle.mon_disk.specs.Fault.{is_of_opening, is_of_save}
use Rattle.mon_disk.specs.File.{found}
use Rattle.mon_disk.specs.Keeper.{found_generation, is_undamaged}
use Rattle.mon_disk.specs.Kept.{is_spoiled, last_generation}
use Rattle.mon_disk.specs.Memory.{memory_failures, memory_octets}
use Rattle.mon_disk.specs.Save.{IsSave}
use Rattle.mon_disk.specs.declared.keeper.Keeper.{Keeper}
use Rattle.mon_station.specs.declared.fault.StationFault.{StationFault}
use Rattle.mon_station.specs.declared.fault.StationFault.TheVariants as station
use Rattle.mon_station.specs.declared.station.Station.{Station}
use Rattle.mon_station.specs.Found.{in_memory}
use Rattle.mon_station.specs.Saved.{IsCausedBy, IsFaultOfFile, IsSaveFault}
use Rattle.mon_world.specs.declared.fault.WorldFault.{WorldFault}
use Rattle.mon_world.specs.declared.fault.WorldFault.TheVariants as world
use Rattle.mon_world.specs.declared.sending.Sent.{Sent}
use Rattle.mon_world.specs.declared.step.Step.{Step}
use Rattle.mon_world.specs.Cause.{IsFaultOfBeginning, IsFaultOfCopy, IsFaultOfReopening, IsFaultOfSave, IsFileReason, IsForReason}
use Rattle.mon_world.specs.Fault.{IsOpeningRefusal, IsRestartCause, IsSaveCause, IsStationCause, IsStopCause, copy_fault, station_refusal}
use Rattle.mon_world.specs.Places.{IsNumberTo}

-- ---- an event
pub event_cause : (n s : ℕ) (f : StationFault) → IsNumberTo n s → IsStationCause n s (station_refusal f)
event_cause n s station.OutOfMemory to = tt
event_cause n s (station.Poll f) to = (to, tt)
event_cause n s (station.Response f) to = (to, tt)
event_cause n s (station.Exchange f) to = (to, tt)
event_cause n s (station.Keeper f) to = (to, tt)
event_cause n s (station.Image f) to = (to, tt)
event_cause n s station.NoMoreIncarnations to = (to, tt)

-- a station that is not there
pub none_saved : (n s : ℕ) (f : WorldFault) → f ≡ world.NoSuchStation → IsStationCause n s f → IsSaveCause n s f
none_saved n s f is cause = subst (IsSaveCause n s) (sym is) (subst (IsStationCause n s) is cause)

pub none_restarted : (n s : ℕ) (f : WorldFault) → f ≡ world.NoSuchStation → IsStationCause n s f → IsRestartCause n s f
none_restarted n s f is cause = subst (IsRestartCause n s) (sym is) (subst (IsStationCause n s) is cause)

pub none_stopped : (n s calls : ℕ) (f : WorldFault) → f ≡ world.NoSuchStation → IsStationCause n s f → IsStopCause n s calls f
none_stopped n s calls f is cause = subst (IsStopCause n s calls) (sym is) (subst (IsStationCause n s) is cause)

pub strange_reason : (P : StationFault → Type 0) (f : WorldFault) → f ≡ world.NoSuchStation → IsForReason P f
strange_reason P f is = subst (IsForReason P) (sym is) tt

-- ---- a save
pub save_cause : (n s : ℕ) (f : StationFault) → IsNumberTo n s → IsSaveFault f → IsSaveCause n s (station_refusal f)
save_cause n s station.OutOfMemory to is = tt
save_cause n s (station.Poll f) to is = absurd is
save_cause n s (station.Response f) to is = absurd is
save_cause n s (station.Exchange f) to is = absurd is
save_cause n s (station.Keeper keeper.OutOfMemory) to is = absurd is
save_cause n s (station.Keeper keeper.DiskFault) to is = (to, tt)
save_cause n s (station.Keeper keeper.NoMoreGenerations) to is = (to, tt)
save_cause n s (station.Keeper keeper.TooLarge) to is = absurd is
save_cause n s (station.Keeper keeper.Damaged) to is = absurd is
save_cause n s (station.Keeper keeper.Reopen) to is = absurd is
save_cause n s (station.Image f) to is = absurd is
save_cause n s station.NoMoreIncarnations to is = absurd is

pub for_reason : (P : StationFault → Type 0) (f : StationFault) → ((f ≡ station.OutOfMemory → ⊥) → P f) → IsForReason P (station_refusal f)
for_reason P station.OutOfMemory h = tt
for_reason P (station.Poll f) h = h (λ e. cc)
for_reason P (station.Response f) h = h (λ e. cc)
for_reason P (station.Exchange f) h = h (λ e. cc)
for_reason P (station.Keeper f) h = h (λ e. cc)
for_reason P (station.Image f) h = h (λ e. cc)
for_reason P station.NoMoreIncarnations h = h (λ e. cc)

pub fault_of_save : (old new : MemoryDisk) (f : StationFault) → IsSaveFault f → IsCausedBy (memory_failures old) (memory_failures new) f
    → (f ≡ station.Keeper keeper.NoMoreGenerations → found_generation (found SLOT_SIZE (memory_octets old)) ≡ 2 ^ 64 - 1) → (f ≡ station.OutOfMemory → ⊥) → IsFaultOfSave old new f
fault_of_save old new station.OutOfMemory is cause full other = absurd (other refl)
fault_of_save old new (station.Poll f) is cause full other = absurd is
fault_of_save old new (station.Response f) is cause full other = absurd is
fault_of_save old new (station.Exchange f) is cause full other = absurd is
fault_of_save old new (station.Keeper keeper.OutOfMemory) is cause full other = absurd is
fault_of_save old new (station.Keeper keeper.DiskFault) is cause full other = cause.told refl
fault_of_save old new (station.Keeper keeper.NoMoreGenerations) is cause full other = full refl
fault_of_save old new (station.Keeper keeper.TooLarge) is cause full other = absurd is
fault_of_save old new (station.Keeper keeper.Damaged) is cause full other = absurd is
fault_of_save old new (station.Keeper keeper.Reopen) is cause full other = absurd is
fault_of_save old new (station.Image f) is cause full other = absurd is
fault_of_save old new station.NoMoreIncarnations is cause full other = absurd is

-- ---- an opening
pub reopening : (watch : Watch) (file : List ℕ) (f : StationFault) → IsFaultOfFile watch file f → IsFaultOfReopening watch file (station_refusal (in_memory f))
reopening watch file station.OutOfMemory is = tt
reopening watch file (station.Poll f) is = is
reopening watch file (station.Response f) is = is
reopening watch file (station.Exchange f) is = is
reopening watch file (station.Keeper keeper.OutOfMemory) is = is
reopening watch file (station.Keeper keeper.DiskFault) is = tt
reopening watch file (station.Keeper keeper.NoMoreGenerations) is = is
reopening watch file (station.Keeper keeper.TooLarge) is = is
reopening watch file (station.Keeper keeper.Damaged) is = is
reopening watch file (station.Keeper keeper.Reopen) is = is
reopening watch file (station.Image f) is = is
reopening watch file station.NoMoreIncarnations is = is

of_opening : (watch : Watch) (file : List ℕ) (f : StationFault) → IsFaultOfCopy watch file f → IsOpeningRefusal f
of_opening watch file station.OutOfMemory is = is
of_opening watch file (station.Poll f) is = is
of_opening watch file (station.Response f) is = is
of_opening watch file (station.Exchange f) is = is
of_opening watch file (station.Keeper keeper.OutOfMemory) is = is
of_opening watch file (station.Keeper keeper.DiskFault) is = is
of_opening watch file (station.Keeper keeper.NoMoreGenerations) is = tt
of_opening watch file (station.Keeper keeper.TooLarge) is = is
of_opening watch file (station.Keeper keeper.Damaged) is = tt
of_opening watch file (station.Keeper keeper.Reopen) is = is
of_opening watch file (station.Image f) is = tt
of_opening watch file station.NoMoreIncarnations is = tt

restart_one : (n s : ℕ) (watch : Watch) (file : List ℕ) (f : WorldFault) → IsNumberTo n s → IsFaultOfReopening watch file f → IsRestartCause n s f
restart_one n s watch file world.OutOfMemory to is = tt
restart_one n s watch file world.NoSuchStation to is = absurd is
restart_one n s watch file world.NoSuchDatagram to is = is
restart_one n s watch file (world.Refused f) to is = (to, of_opening watch file f is)
restart_one n s watch file world.BadCount to is = is
restart_one n s watch file world.BadStop to is = is

pub restart_cause : (n s : ℕ) (watch : Watch) (file : List ℕ) (r : Result Sent WorldFault) → IsNumberTo n s → IfErr r (IsFaultOfReopening watch file) → IfErr r (IsRestartCause n s)
restart_cause n s watch file (Ok sent) to is = tt
restart_cause n s watch file (Err f) to is = restart_one n s watch file f to is

stop_one : (n s calls : ℕ) (watch : Watch) (file : List ℕ) (f : WorldFault) → IsNumberTo n s → calls ≤ 6 → IsFaultOfReopening watch file f → IsStopCause n s calls f
stop_one n s calls watch file world.OutOfMemory to few is = tt
stop_one n s calls watch file world.NoSuchStation to few is = absurd is
stop_one n s calls watch file world.NoSuchDatagram to few is = is
stop_one n s calls watch file (world.Refused f) to few is = (to, few, of_opening watch file f is)
stop_one n s calls watch file world.BadCount to few is = is
stop_one n s calls watch file world.BadStop to few is = absurd is

pub stop_cause : (n s calls : ℕ) (watch : Watch) (file : List ℕ) (r : Result Sent WorldFault) → IsNumberTo n s → calls ≤ 6 → IfErr r (IsFaultOfReopening watch file) → IfErr r (IsStopCause n s calls)
stop_cause n s calls watch file (Ok sent) to few is = tt
stop_cause n s calls watch file (Err f) to few is = stop_one n s calls watch file f to few is

reason_one : (watch : Watch) (file : List ℕ) (P : StationFault → Type 0) (f : WorldFault) → ((g : StationFault) → IsFaultOfCopy watch file g → P g) → IsFaultOfReopening watch file f → IsForReason P f
reason_one watch file P world.OutOfMemory h is = tt
reason_one watch file P world.NoSuchStation h is = tt
reason_one watch file P world.NoSuchDatagram h is = tt
reason_one watch file P (world.Refused f) h is = h f is
reason_one watch file P world.BadCount h is = tt
reason_one watch file P world.BadStop h is = tt

pub reopening_reason : (watch : Watch) (file : List ℕ) (P : StationFault → Type 0) (r : Result Sent WorldFault) → ((g : StationFault) → IsFaultOfCopy watch file g → P g) → IfErr r (IsFaultOfReopening watch file) → IfErr r (IsForReason P)
reopening_reason watch file P (Ok sent) h is = tt
reopening_reason watch file P (Err f) h is = reason_one watch file P f h is

-- ---- a save of a copy
pub beginning_opening : (file : List ℕ) (f : KeeperFault) → is_of_opening f ≡ true → (f ≡ keeper.Damaged → is_undamaged file ≡ false) → IsFaultOfBeginning file (copy_fault f)
beginning_opening file keeper.OutOfMemory of damaged = tt
beginning_opening file keeper.DiskFault of damaged = tt
beginning_opening file keeper.NoMoreGenerations of damaged = absurd (let no : false ≡ true = of in cc)
beginning_opening file keeper.TooLarge of damaged = absurd (let no : false ≡ true = of in cc)
beginning_opening file keeper.Damaged of damaged = damaged refl
beginning_opening file keeper.Reopen of damaged = absurd (let no : false ≡ true = of in cc)

pub beginning_save : (file : List ℕ) (f : KeeperFault) → is_of_save f ≡ true → (f ≡ keeper.Reopen → ⊥) → (f ≡ keeper.TooLarge → ⊥) → (f ≡ keeper.NoMoreGenerations → found_generation (found SLOT_SIZE file) ≡ 2 ^ 64 - 1)
    → IsFaultOfBeginning file (copy_fault f)
beginning_save file keeper.OutOfMemory of fresh fits full = tt
beginning_save file keeper.DiskFault of fresh fits full = tt
beginning_save file keeper.NoMoreGenerations of fresh fits full = full refl
beginning_save file keeper.TooLarge of fresh fits full = absurd (fits refl)
beginning_save file keeper.Damaged of fresh fits full = absurd (let no : false ≡ true = of in cc)
beginning_save file keeper.Reopen of fresh fits full = absurd (fresh refl)

pub beginning_of : {X T : Type 0} {G : Ghosts X} (calls : ℕ) (body file : List ℕ) (k new : Keeper X G) (f : KeeperFault) → IsSave {T = T} calls body k new (Err f) → is_of_save f ≡ true → is_spoiled k ≡ false → length body + 17 ≤ SLOT_SIZE
    → found_generation (found SLOT_SIZE file) ≡ last_generation k → IsFaultOfBeginning file (copy_fault f)
beginning_of calls body file k new f s of fresh fits generation = beginning_save file f of
    (λ is. absurd (let no : true ≡ false = sym (s.refused.reopen.1 (ap Err is)) ∙ fresh in cc))
    (λ is. omega (arith, fits, (s.refused.too_large.1 (ap Err is)).2))
    (λ is. generation ∙ (s.refused.no_more.1 (ap Err is)).1)

pub begun_cause : (n s calls : ℕ) (file : List ℕ) (f : StationFault) → IsNumberTo n s → calls ≤ 6 → IsFaultOfBeginning file f → IsStopCause n s calls (station_refusal f)
begun_cause n s calls file station.OutOfMemory to few is = tt
begun_cause n s calls file (station.Poll f) to few is = absurd is
begun_cause n s calls file (station.Response f) to few is = absurd is
begun_cause n s calls file (station.Exchange f) to few is = absurd is
begun_cause n s calls file (station.Keeper keeper.OutOfMemory) to few is = absurd is
begun_cause n s calls file (station.Keeper keeper.DiskFault) to few is = absurd is
begun_cause n s calls file (station.Keeper keeper.NoMoreGenerations) to few is = (to, few, tt)
begun_cause n s calls file (station.Keeper keeper.TooLarge) to few is = absurd is
begun_cause n s calls file (station.Keeper keeper.Damaged) to few is = (to, few, tt)
begun_cause n s calls file (station.Keeper keeper.Reopen) to few is = absurd is
begun_cause n s calls file (station.Image f) to few is = absurd is
begun_cause n s calls file station.NoMoreIncarnations to few is = absurd is

-- ---- a step that is known
pub reason_of : {G : Ghosts MemoryDisk} (watch : Watch) (old new : List (Station MemoryDisk G)) (entry this : Step) (result : Result Sent WorldFault) → entry ≡ this → IfErr result (IsFileReason watch old new this) → IfErr result (IsFileReason watch old new entry)
reason_of watch old new entry this result is reason = subst (λ (s : Step). IfErr result (IsFileReason watch old new s)) (sym is) reason

pub no_reason : {G : Ghosts MemoryDisk} (watch : Watch) (old new : List (Station MemoryDisk G)) (this : Step) (result : Result Sent WorldFault) → ((f : WorldFault) → IsFileReason watch old new this f) → IfErr result (IsFileReason watch old new this)
no_reason watch old new this (Ok sent) h = tt
no_reason watch old new this (Err f) h = h f
