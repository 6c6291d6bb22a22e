-- Faults of a move to another disk.
use Rattle.std.proofs.Common.{◌≡◌, true, false, refl}
use Rattle.mon_disk.specs.declared.fault.KeeperFault.{KeeperFault}
use Rattle.mon_disk.specs.declared.fault.KeeperFault.TheVariants as keeper
use Rattle.mon_disk.specs.Fault.{is_of_opening}
use Rattle.mon_station.specs.declared.fault.StationFault.TheVariants as station
use Rattle.mon_station.specs.Fault.{keeper_refusal}
use Rattle.mon_station.specs.Saved.{IsMovingFault}

-- a fault of the keeper's opening
pub moving_fault : (f : KeeperFault) → is_of_opening f ≡ true → IsMovingFault (keeper_refusal f)
moving_fault keeper.OutOfMemory of = tt
moving_fault keeper.DiskFault of = tt
moving_fault keeper.NoMoreGenerations of = absurd (let no : false ≡ true = of in cc)
moving_fault keeper.TooLarge of = absurd (let no : false ≡ true = of in cc)
moving_fault keeper.Damaged of = tt
moving_fault keeper.Reopen of = absurd (let no : false ≡ true = of in cc)

-- it is damage only if the keeper's is
pub only_damaged : (f : KeeperFault) → keeper_refusal f ≡ station.Keeper keeper.Damaged → f ≡ keeper.Damaged
only_damaged keeper.OutOfMemory is = absurd cc
only_damaged keeper.DiskFault is = absurd cc
only_damaged keeper.NoMoreGenerations is = absurd cc
only_damaged keeper.TooLarge is = absurd cc
only_damaged keeper.Damaged is = refl
only_damaged keeper.Reopen is = absurd cc
