-- What a save does at a keeper that is reopened first where its disk failed in an earlier save.
use Rattle.std.specs.Prelude.{ℕ, ◌≡◌, ◌≤◌, ◌-◌, ◌^◌, ◌↔◌, true, false, List, Some, Err, Result}
use Rattle.std.specs.Prelude.{IfErr, OnOk, OnErr}
use Rattle.mon_disk.specs.Disk.{Leaves, LeavesSince}
use Rattle.mon_disk.specs.Fault.{HasDiskCause}
use Rattle.mon_disk.specs.File.{found}
use Rattle.mon_disk.specs.History.{FindsRunning}
use Rattle.mon_disk.specs.Keeper.{FindsBody, found_generation}
use Rattle.mon_disk.specs.Kept.{device_of, is_spoiled, last_body, last_generation}
use Rattle.mon_disk.specs.declared.disk.Disk.{Ghosts}
use Rattle.mon_disk.specs.declared.fault.KeeperFault.{KeeperFault}
use Rattle.mon_disk.specs.declared.fault.KeeperFault.TheVariants.{DiskFault, NoMoreGenerations}
use Rattle.mon_disk.specs.declared.file.TheConstants.{SLOT_SIZE}
use Rattle.mon_disk.specs.declared.keeper.Keeper.{Keeper}
use Rattle.mon_station.specs.Saved.{may_meet}

-- one of the keeper's faults of such a save, of what fits
abbrev pub IsMendedFault : KeeperFault → Type 0
IsMendedFault DiskFault = Unit {0}
IsMendedFault NoMoreGenerations = Unit {0}
IsMendedFault other = ⊥

-- what a save of this body does there
pub record IsMendedSave {X T : Type 0} {G : Ghosts X} (body : List ℕ) (old new : Keeper X G)
    (result : Result T KeeperFault) : Type 0 where
  -- after it a crash leaves files in which the body is found, and the keeper knows it as the last;
  -- else it knows the one before
  pub saved : G.is_honest (device_of old) → OnOk result (Leaves (G.may_leave (device_of new))
      (FindsBody (Some body)))
  pub last : G.is_honest (device_of old) → OnOk result (last_body new ≡ Some body)
  pub last_err : G.is_honest (device_of old) → OnErr result (last_body new ≡ last_body old)
  -- a crash at any time leaves what an opening takes for one of the files that it might have met
  -- before, or this body
  pub any_moment : G.is_honest (device_of old) → LeavesSince G.moment G.left_since (device_of old)
      (device_of new) (FindsRunning (Some body) (may_meet old))
  -- each fault is one of these, and only the disk's changes anything
  pub fault : IfErr result IsMendedFault
  pub unsaved : IfErr result (λ e. (e ≡ DiskFault → ⊥) → new ≡ old)
  pub no_more : result ≡ Err NoMoreGenerations → last_generation old ≡ 2 ^ 64 - 1
  pub no_more_found : G.is_honest (device_of old) → result ≡ Err NoMoreGenerations
      → found_generation (found SLOT_SIZE (G.seen (device_of old))) ≡ 2 ^ 64 - 1
  pub fresh : OnOk result (is_spoiled new ≡ false)
  pub spoiled : result ≡ Err DiskFault → is_spoiled new ≡ true
  pub honest : G.is_honest (device_of old) ↔ G.is_honest (device_of new)
  pub count : G.faults (device_of old) ≤ G.faults (device_of new)
  pub told : IfErr result (HasDiskCause (G.faults (device_of old)) (G.faults (device_of new)))
