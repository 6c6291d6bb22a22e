-- The windows that a disk holds, and why there are none.
use Rattle.std.proofs.Common.{◌≡◌, true, false, ℕ, List, Option, Some, None, refl, sym, subst}
use Rattle.std.specs.FinSet as set
use Rattle.mon_board.specs.Board.{Board, window_of}
use Rattle.mon_board.specs.Instance.{instances_of}
use Rattle.mon_board.specs.Watch.{Watch}
use Rattle.mon_disk.specs.declared.fault.KeeperFault.{KeeperFault}
use Rattle.mon_disk.specs.declared.fault.KeeperFault.TheVariants as keeper
use Rattle.mon_disk.specs.Fault.{is_of_opening}
use Rattle.mon_disk.specs.Keeper.{FindsBody, is_undamaged}
use Rattle.mon_station.specs.Found.{IsBoardOf, IsFaultOfFound, IsFaultOfImage, IsFaultOfOctets, IsFindingFault, in_memory}
use Rattle.mon_saved.specs.declared.fault.ImageFault.{ImageFault}
use Rattle.mon_saved.specs.declared.fault.ImageFault.TheVariants as image
use Rattle.mon_saved.specs.declared.image.Image.{Image}
use Rattle.mon_saved.specs.Image.{SpellsImage}
use Rattle.mon_saved.specs.Reading as saved
use Rattle.mon_saved.specs.Reading.{image_at}
use Rattle.mon_saved.specs.Restored.{IsRestored}
use Rattle.mon_station.specs.declared.fault.StationFault.{StationFault}
use Rattle.mon_station.specs.declared.fault.StationFault.TheVariants as station
use Rattle.mon_station.specs.Fault.{image_refusal, keeper_refusal}

-- the windows of an image
pub of_image : (watch : Watch) (octets : List ℕ) (board : Board) (incarnation : ℕ) → IsRestored watch octets board incarnation → IsBoardOf watch (Some octets) board
of_image watch octets board incarnation restored = record { watched = restored.watch_is; found = (restored.image, restored.spelled, restored.windows) }

-- empty windows
pub of_none : (watch : Watch) (board : Board) (body : Option (List ℕ)) → body ≡ None → board.watch ≡ watch → ((i : ℕ) → window_of board i ≡ set.empty) → IsBoardOf watch body board
of_none watch board body none is empty = subst (λ b. IsBoardOf watch b board) (sym none) (record { watched = is; found = empty })

-- octets that are no image of the watch's instances
pub no_image : (watch : Watch) (octets : List ℕ) (f : ImageFault) (g : StationFault) → g ≡ image_refusal f → saved.Fails f (image_at (instances_of watch.instances) octets)
    → ((m : Image) → SpellsImage octets (instances_of watch.instances) m → f ≡ image.OutOfMemory) → IsFaultOfImage watch (Some octets) g
no_image watch octets f g is h only = subst (IsFaultOfImage watch (Some octets)) (sym is) (at f h only)
  where
    at : (f : ImageFault) → saved.Fails f (image_at (instances_of watch.instances) octets) → ((m : Image) → SpellsImage octets (instances_of watch.instances) m → f ≡ image.OutOfMemory) → IsFaultOfImage watch (Some octets) (image_refusal f)
    at image.OutOfMemory h only = tt
    at image.Truncated h only = (octets, refl, h, λ m is. let no : image.Truncated ≡ image.OutOfMemory = only m is in cc)
    at image.BadVersion h only = (octets, refl, h, λ m is. let no : image.BadVersion ≡ image.OutOfMemory = only m is in cc)
    at image.OtherWatch h only = (octets, refl, h, λ m is. let no : image.OtherWatch ≡ image.OutOfMemory = only m is in cc)
    at image.BadImage h only = (octets, refl, h, λ m is. let no : image.BadImage ≡ image.OutOfMemory = only m is in cc)

-- a body that has no windows
pub fault_of_found : (watch : Watch) (file : List ℕ) (body : Option (List ℕ)) (fault : StationFault) → FindsBody body file → IsFaultOfImage watch body fault → IsFaultOfFound watch file fault
fault_of_found watch file body station.OutOfMemory finds h = tt
fault_of_found watch file body (station.Keeper f) finds h = absurd h
fault_of_found watch file body (station.Poll f) finds h = absurd h
fault_of_found watch file body (station.Response f) finds h = absurd h
fault_of_found watch file body (station.Exchange f) finds h = absurd h
fault_of_found watch file body (station.Image f) finds h = subst (λ (b : Option (List ℕ)). IsFaultOfImage watch b (station.Image f)) (sym finds.body_is) h
fault_of_found watch file body station.NoMoreIncarnations finds h = absurd h

pub finding_image : (watch : Watch) (body : Option (List ℕ)) (fault : StationFault) → IsFaultOfImage watch body fault → IsFindingFault fault
finding_image watch body station.OutOfMemory h = tt
finding_image watch body (station.Keeper f) h = absurd h
finding_image watch body (station.Poll f) h = absurd h
finding_image watch body (station.Response f) h = absurd h
finding_image watch body (station.Exchange f) h = absurd h
finding_image watch body (station.Image f) h = tt
finding_image watch body station.NoMoreIncarnations h = absurd h

-- a fault of the keeper's opening
pub finding_keeper : (f : KeeperFault) → is_of_opening f ≡ true → IsFindingFault (keeper_refusal f)
finding_keeper keeper.OutOfMemory of = tt
finding_keeper keeper.DiskFault of = tt
finding_keeper keeper.NoMoreGenerations of = absurd (let no : false ≡ true = of in cc)
finding_keeper keeper.TooLarge of = absurd (let no : false ≡ true = of in cc)
finding_keeper keeper.Damaged of = tt
finding_keeper keeper.Reopen of = absurd (let no : false ≡ true = of in cc)

pub found_keeper : (watch : Watch) (file : List ℕ) (f : KeeperFault) → is_of_opening f ≡ true → (f ≡ keeper.Damaged → is_undamaged file ≡ false) → IsFaultOfFound watch file (keeper_refusal f)
found_keeper watch file keeper.OutOfMemory of h = tt
found_keeper watch file keeper.DiskFault of h = tt
found_keeper watch file keeper.NoMoreGenerations of h = absurd (let no : false ≡ true = of in cc)
found_keeper watch file keeper.TooLarge of h = absurd (let no : false ≡ true = of in cc)
found_keeper watch file keeper.Damaged of h = h refl
found_keeper watch file keeper.Reopen of h = absurd (let no : false ≡ true = of in cc)

-- a fault over a disk in memory
pub of_octets : (watch : Watch) (file : List ℕ) (f : StationFault) → IsFaultOfFound watch file f → IsFaultOfOctets watch file (in_memory f)
of_octets watch file station.OutOfMemory h = h
of_octets watch file (station.Keeper keeper.OutOfMemory) h = h
of_octets watch file (station.Keeper keeper.DiskFault) h = tt
of_octets watch file (station.Keeper keeper.NoMoreGenerations) h = h
of_octets watch file (station.Keeper keeper.TooLarge) h = h
of_octets watch file (station.Keeper keeper.Damaged) h = h
of_octets watch file (station.Keeper keeper.Reopen) h = h
of_octets watch file (station.Poll f) h = h
of_octets watch file (station.Response f) h = h
of_octets watch file (station.Exchange f) h = h
of_octets watch file (station.Image f) h = h
of_octets watch file station.NoMoreIncarnations h = h
