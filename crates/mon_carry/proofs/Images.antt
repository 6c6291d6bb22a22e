-- Why an image was not read, as this crate's fault.
use Rattle.std.proofs.Common.{◌≡◌, ℕ, List, Option, Some, refl, sym, subst, true, false}
use Rattle.mon_board.specs.Instance.{instances_of}
use Rattle.mon_board.specs.Watch.{Watch}
use Rattle.mon_disk.specs.declared.fault.KeeperFault.{KeeperFault}
use Rattle.mon_disk.specs.declared.fault.KeeperFault.TheVariants as keeper
use Rattle.mon_disk.specs.Fault.{is_of_opening}
use Rattle.mon_disk.specs.Keeper.{FindsBody, is_undamaged}
use Rattle.mon_saved.specs.declared.fault.ImageFault.{ImageFault}
use Rattle.mon_saved.specs.declared.fault.ImageFault.TheVariants as image
use Rattle.mon_saved.specs.declared.image.Image.{Image}
use Rattle.mon_saved.specs.Image.{SpellsImage}
use Rattle.mon_saved.specs.Reading as saved
use Rattle.mon_saved.specs.Reading.{image_at}
use Rattle.mon_carry.specs.declared.fault.CarryFault.{CarryFault}
use Rattle.mon_carry.specs.declared.fault.CarryFault.TheVariants as fault
use Rattle.mon_carry.specs.Fault.{IsFaultOfBody, IsFaultOfOld, image_refusal, in_memory, keeper_refusal}

-- octets that are no image of the watch's instances
pub no_image : (watch : Watch) (octets : List ℕ) (f : ImageFault) (g : CarryFault) → g ≡ image_refusal f → saved.Fails f (image_at (instances_of watch.instances) octets)
    → ((m : Image) → SpellsImage octets (instances_of watch.instances) m → f ≡ image.OutOfMemory) → IsFaultOfBody watch (Some octets) g
no_image watch octets f g is h only = subst (IsFaultOfBody watch (Some octets)) (sym is) (at f h only)
  where
    at : (f : ImageFault) → saved.Fails f (image_at (instances_of watch.instances) octets) → ((m : Image) → SpellsImage octets (instances_of watch.instances) m → f ≡ image.OutOfMemory) → IsFaultOfBody watch (Some octets) (image_refusal f)
    at image.OutOfMemory h only = tt
    at image.Truncated h only = (octets, refl, h, λ m is. let no : image.Truncated ≡ image.OutOfMemory = only m is in cc)
    at image.BadVersion h only = (octets, refl, h, λ m is. let no : image.BadVersion ≡ image.OutOfMemory = only m is in cc)
    at image.OtherWatch h only = (octets, refl, h, λ m is. let no : image.OtherWatch ≡ image.OutOfMemory = only m is in cc)
    at image.BadImage h only = (octets, refl, h, λ m is. let no : image.BadImage ≡ image.OutOfMemory = only m is in cc)

-- a fault of the body that was found
pub of_body : (watch : Watch) (file : List ℕ) (body : Option (List ℕ)) (f : CarryFault) → FindsBody body file → IsFaultOfBody watch body f → IsFaultOfOld watch file f
of_body watch file body fault.OutOfMemory finds h = tt
of_body watch file body (fault.Keeper f) finds h = absurd h
of_body watch file body (fault.Image f) finds h = subst (λ (b : Option (List ℕ)). IsFaultOfBody watch b (fault.Image f)) (sym finds.body_is) h
of_body watch file body fault.NoMoreIncarnations finds h = absurd h
of_body watch file body fault.AlreadySaved finds h = absurd h

-- a fault of the keeper's opening of a disk in memory
pub of_keeper : (watch : Watch) (file : List ℕ) (f : KeeperFault) → is_of_opening f ≡ true → (f ≡ keeper.Damaged → is_undamaged file ≡ false) → IsFaultOfOld watch file (in_memory (keeper_refusal f))
of_keeper watch file keeper.OutOfMemory of h = tt
of_keeper watch file keeper.DiskFault of h = tt
of_keeper watch file keeper.NoMoreGenerations of h = absurd (let no : false ≡ true = of in cc)
of_keeper watch file keeper.TooLarge of h = absurd (let no : false ≡ true = of in cc)
of_keeper watch file keeper.Damaged of h = h refl
of_keeper watch file keeper.Reopen of h = absurd (let no : false ≡ true = of in cc)
