-- What a keeper does at a save, by how many of its six disk calls are made.
use Rattle.std.specs.Prelude.{◌≡◌, ◌<◌, ◌≤◌, ◌+◌, ◌-◌, ◌^◌, ◌↔◌, ℕ, true, false, nat_lt, List}
use Rattle.std.specs.Prelude.{length, Result, Some, Err, IfErr, OnOk, OnErr}
use Rattle.mon_disk.specs.Disk.{Leaves, LeavesSince}
use Rattle.mon_disk.specs.Fault.{HasDiskCause}
use Rattle.mon_disk.specs.File.{found}
use Rattle.mon_disk.specs.History.{FindsRunning, Happens, acknowledged, unacknowledged}
use Rattle.mon_disk.specs.Keeper.{FindsBody, IsWhole, found_generation, next_saved, shown_from}
use Rattle.mon_disk.specs.Kept.{device_of, is_spoiled, last_body, last_generation}
use Rattle.mon_disk.specs.declared.disk.Disk.{Ghosts}
use Rattle.mon_disk.specs.declared.fault.KeeperFault.{KeeperFault}
use Rattle.mon_disk.specs.declared.fault.KeeperFault.TheVariants.{DiskFault, NoMoreGenerations}
use Rattle.mon_disk.specs.declared.fault.KeeperFault.TheVariants.{TooLarge, Reopen}
use Rattle.mon_disk.specs.declared.file.TheConstants.{SLOT_SIZE}
use Rattle.mon_disk.specs.declared.keeper.Keeper.{Keeper}

-- when a save of a body of this length is refused before any call of the disk
pub record IsRefused {X T : Type 0} {G : Ghosts X} (k : Keeper X G) (size : ℕ)
    (result : Result T KeeperFault) : Type 0 where
  pub reopen : (is_spoiled k ≡ true) ↔ (result ≡ Err Reopen)
  pub no_more : (is_spoiled k ≡ false) × (last_generation k ≡ 2 ^ 64 - 1)
      ↔ (result ≡ Err NoMoreGenerations)
  pub too_large : (is_spoiled k ≡ false) × (last_generation k < 2 ^ 64 - 1)
      × (SLOT_SIZE < size + 17) ↔ (result ≡ Err TooLarge)

-- what the first `calls` disk calls of a save of this body do to an honest disk
pub record IsSaveOf {X T : Type 0} (G : Ghosts X) (calls : ℕ) (body : List ℕ) (old new : X)
    (result : Result T KeeperFault) : Type 0 where
  -- A read returns the new save from the fifth call on. From the sixth on the disk has it.
  pub seen : OnOk result (found SLOT_SIZE (G.seen new) ≡ shown_from 5 calls
      (found SLOT_SIZE (G.seen old)) (next_saved (found SLOT_SIZE (G.seen old)) body))
  pub synced : OnOk result (found SLOT_SIZE (G.synced new) ≡ shown_from 6 calls
      (found SLOT_SIZE (G.seen old)) (next_saved (found SLOT_SIZE (G.seen old)) body))
  pub whole : OnOk result (IsWhole (G.seen new) × IsWhole (G.synced new))
  -- after all six, a crash leaves a file in which this body is found
  pub saved : 6 ≤ calls → OnOk result (Leaves (G.may_leave new) (FindsBody (Some body)))
  -- A crash at any time leaves what an opening takes for one of the files that it might have left
  -- before, or this body.
  pub any_moment : LeavesSince G.moment G.left_since old new
      (FindsRunning (Some body) (G.may_leave old))
  -- the call is one of the events of `laws::stops`
  pub happens : 6 ≤ calls → OnOk result (Happens G.is_honest G.seen G.may_leave G.moment
      G.left_since (acknowledged body) old new)
  pub happens_err : OnErr result (Happens G.is_honest G.seen G.may_leave G.moment G.left_since
      (unacknowledged body) old new)
  pub no_more_found : result ≡ Err NoMoreGenerations → found_generation
      (found SLOT_SIZE (G.seen old)) ≡ 2 ^ 64 - 1

-- what the first `calls` disk calls of a save of this body do; a save is six of them
pub record IsSave {X T : Type 0} {G : Ghosts X} (calls : ℕ) (body : List ℕ) (old new : Keeper X G)
    (result : Result T KeeperFault) : Type 0 where
  pub refused : IsRefused old (length body) result
  pub on_disk : G.is_honest (device_of old) → IsSaveOf G calls body (device_of old) (device_of new)
      result
  -- without a call the disk stays as it was
  pub none : calls ≡ 0 → device_of new ≡ device_of old
  -- The keeper goes on after all six calls, and must be reopened after fewer or a disk fault.
  -- Another fault changes nothing.
  pub fresh : OnOk result (is_spoiled new ≡ nat_lt calls 6)
  pub spoiled : result ≡ Err DiskFault → is_spoiled new ≡ true
  pub same : IfErr result (λ e. (e ≡ DiskFault → ⊥) → new ≡ old)
  pub generation : 6 ≤ calls → OnOk result (last_generation new ≡ last_generation old + 1)
  -- after all six it knows this body as the last, else the one before
  pub last : G.is_honest (device_of old) → 6 ≤ calls → OnOk result (last_body new ≡ Some body)
  pub last_before : G.is_honest (device_of old) → calls < 6 → OnOk result
      (last_body new ≡ last_body old)
  pub last_err : G.is_honest (device_of old) → OnErr result (last_body new ≡ last_body old)
  pub fits : OnOk result (length body + 17 ≤ SLOT_SIZE)
  -- a disk stays honest, and its fault is returned only if it was counted
  pub honest : G.is_honest (device_of old) ↔ G.is_honest (device_of new)
  pub count : G.faults (device_of old) ≤ G.faults (device_of new)
  pub told : IfErr result (HasDiskCause (G.faults (device_of old)) (G.faults (device_of new)))
