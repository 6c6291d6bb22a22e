-- Why a station is not opened on an empty disk.
use Rattle.std.proofs.Common.{ℕ, ◌≡◌, ◌-◌, ◌^◌, ◌∙◌, true, false, List, Option, Some, None, sym, arith}
use Rattle.mon_board.specs.Watch.{Watch}
use Rattle.mon_disk.specs.declared.fault.KeeperFault.TheVariants as keeper
use Rattle.mon_disk.specs.declared.file.TheConstants.{SLOT_SIZE}
use Rattle.mon_disk.specs.File.{Saved, found}
use Rattle.mon_disk.specs.Keeper.{FindsBody, found_body, found_generation, saved_body}
use Rattle.mon_station.specs.declared.fault.StationFault.{StationFault}
use Rattle.mon_station.specs.declared.fault.StationFault.TheVariants as station
use Rattle.mon_station.specs.Saved.{IsFaultOfFile}
use Rattle.mon_station.specs.Found.{in_memory}
use Rattle.mon_world.specs.Fault.{IsFaultOfNew, station_refusal}
use Rattle.mon_world.proofs.Lives.{not_some}

not_true : false ≡ true → ⊥
not_true e = cc

none_generation : (old : Option Saved) → saved_body old ≡ None → found_generation old ≡ 2 ^ 64 - 1 → ⊥
none_generation None is most = omega (arith, most)
none_generation (Some s) is most = not_some (sym is)

no_generation : (file : List ℕ) → FindsBody None file → found_generation (found SLOT_SIZE file) ≡ 2 ^ 64 - 1 → ⊥
unfolding found_body
no_generation file none most = none_generation (found SLOT_SIZE file) none.body_is most

-- the faults of an opening of a file that was never saved, as the world's
pub first_refused : (watch : Watch) (count : ℕ) (file : List ℕ) (f : StationFault) → FindsBody None file → IsFaultOfFile watch file f → IsFaultOfNew count (station_refusal (in_memory f))
first_refused watch count file station.OutOfMemory none is = tt
first_refused watch count file (station.Poll f) none is = is
first_refused watch count file (station.Response f) none is = is
first_refused watch count file (station.Exchange f) none is = is
first_refused watch count file (station.Keeper keeper.OutOfMemory) none is = is
first_refused watch count file (station.Keeper keeper.DiskFault) none is = tt
first_refused watch count file (station.Keeper keeper.NoMoreGenerations) none is = absurd (no_generation file none is)
first_refused watch count file (station.Keeper keeper.TooLarge) none is = is
first_refused watch count file (station.Keeper keeper.Damaged) none is = absurd (not_true (sym is ∙ none.undamaged))
first_refused watch count file (station.Keeper keeper.Reopen) none is = is
first_refused watch count file (station.Image f) none is = absurd (not_some (sym none.body_is ∙ is.1))
first_refused watch count file station.NoMoreIncarnations none is = absurd (not_some (sym none.body_is ∙ is.2))
