-- How a keeper mends itself after its disk failed in a save.
--
-- What a failed save leaves. A save writes only to the spare slot: it closes the gate, fills the
-- slot and opens the gate, each a write and a sync. So whichever of the six calls failed, each file
-- that a crash may leave has the other slot as it was, with the last save, of generation g. Its
-- spare slot is closed, or open with the save before the last, or, if opening the gate failed, open
-- with the failed save, whole and of generation g + 1. Which of these is on the disk cannot be
-- known, and a read does not show it: after a sync that failed, a system may take pages for written
-- that the disk lacks.
--
-- How two calls settle it. The keeper goes on knowing generation g in the other slot as the newest,
-- whatever became of the failed save. It writes a closed gate to the spare slot, open or not, and
-- syncs: the octet is written again, so a sync that succeeds puts it on the disk, and of a closed
-- slot no other octet counts. Of the other slot nothing was written since its own syncs succeeded.
-- Then an opening finds generation g, and no open slot has generation g + 1. The next save takes
-- that one, in the spare slot, and writes again each octet that counts. So the next acknowledged
-- save is the newest in every case. Meanwhile a crash leaves the spare slot as it was or closed: an
-- opening meets what it would have met before, or finds the last save again. If one of the two
-- calls fails, all of this holds as it did before them.
use Rattle.std.specs.Prelude.{◌≡◌, ◌<◌, ◌≤◌, ◌-◌, ◌^◌, ◌↔◌, ℕ, true, false, List, Result, Option}
use Rattle.std.specs.Prelude.{IfErr, IsOk, OnOk, OnErr}
use Rattle.mon_disk.specs.Disk.{Leaves, LeavesSince}
use Rattle.mon_disk.specs.Fault.{HasDiskCause}
use Rattle.mon_disk.specs.History.{FindsAgain, Happens, reopened, unreopened}
use Rattle.mon_disk.specs.Keeper.{FindsBody, IsWhole}
use Rattle.mon_disk.specs.Kept.{device_of, is_spoiled, last_body, last_generation}
use Rattle.mon_disk.specs.declared.disk.Disk.{Ghosts}
use Rattle.mon_disk.specs.declared.fault.KeeperFault.{KeeperFault}
use Rattle.mon_disk.specs.declared.fault.KeeperFault.TheVariants.{DiskFault}
use Rattle.mon_disk.specs.declared.keeper.Keeper.{Keeper}

-- what a reopening does to an honest disk, where this body is the last
pub record IsReopeningOf {X T : Type 0} (G : Ghosts X) (last : Option (List ℕ)) (old new : X)
    (result : Result T KeeperFault) : Type 0 where
  -- a read returns the last save, and a crash leaves files in which it is found
  pub whole : OnOk result (IsWhole (G.seen new))
  pub found : OnOk result (FindsBody last (G.seen new))
  pub kept : OnOk result (Leaves (G.may_leave new) (FindsBody last))
  -- A crash at any time, even if a call fails, leaves one of the files that it might have left
  -- before, for an opening, or the last save.
  pub any_moment : LeavesSince G.moment G.left_since old new (FindsAgain last (G.may_leave old))
  -- the call is one of the events of `laws::stops`
  pub happens : OnOk result (Happens G.is_honest G.seen G.may_leave G.moment G.left_since
      (reopened last) old new)
  pub happens_err : OnErr result (Happens G.is_honest G.seen G.may_leave G.moment G.left_since
      (unreopened last) old new)

-- What a reopening does. It keeps what the keeper knows as the last save.
pub record IsReopening {X T : Type 0} {G : Ghosts X} (old new : Keeper X G)
    (result : Result T KeeperFault) : Type 0 where
  pub on_disk : G.is_honest (device_of old) → IsReopeningOf G (last_body old) (device_of old)
      (device_of new) result
  pub last : G.is_honest (device_of old) → last_body new ≡ last_body old
  pub generation : last_generation new ≡ last_generation old
  -- the next save is not refused with Reopen, nor for its generation if a save failed before
  pub fresh : OnOk result (is_spoiled new ≡ false)
  pub more : is_spoiled old ≡ true → last_generation old < 2 ^ 64 - 1
  -- a keeper that needs none answers Ok and changes nothing
  pub none : is_spoiled old ≡ false → IsOk result × (new ≡ old)
  -- it fails only if the disk does, and must then be reopened still
  pub fault : IfErr result (λ e. e ≡ DiskFault)
  pub spoiled : OnErr result (is_spoiled new ≡ true)
  -- a disk stays honest, and its fault is returned only if it was counted
  pub honest : G.is_honest (device_of old) ↔ G.is_honest (device_of new)
  pub count : G.faults (device_of old) ≤ G.faults (device_of new)
  pub told : IfErr result (HasDiskCause (G.faults (device_of old)) (G.faults (device_of new)))
