-- A save that was refused before any call of the disk changes nothing.
use Rattle.std.specs.Prelude.{IsErrAnd}
use Rattle.std.proofs.Common.{Result, Ok, Err, ℕ, ◌≡◌, List, length, refl, ◌∙◌, arith}
use Rattle.mon_disk.specs.Save.{IsRefused, IsSave, IsSaveOf}
use Rattle.mon_disk.specs.declared.disk.Disk.{Ghosts}
use Rattle.mon_disk.specs.declared.fault.KeeperFault.{KeeperFault}
use Rattle.mon_disk.specs.declared.fault.KeeperFault.TheVariants.{DiskFault}
use Rattle.mon_disk.specs.declared.file.TheConstants.{SLOT_SIZE}
use Rattle.mon_disk.specs.declared.keeper.Keeper.{Keeper}
use Rattle.mon_disk.proofs.Moments.{began}
use Rattle.mon_disk.proofs.Saves.{generation_found}
use Rattle.mon_disk.proofs.Spelled.{nothing_else}

module _ {X T : Type 0} {G : Ghosts X} (calls : ℕ) (body : List ℕ) (k : Keeper X G) (only_now : (c : List ℕ) → G.is_honest k.device → G.left_since k.device (G.moment k.device) c → G.may_leave k.device c) where
  nothing_made : (e : KeeperFault) → IsRefused {T = T} k (length body) (Err e) → G.is_honest k.device → IsSaveOf {T = T} G calls body k.device k.device (Err e)
  nothing_made e is honest =
      let rests = began G.moment G.left_since G.may_leave k.device _ (λ c left. only_now c honest left) (nothing_else (G.may_leave k.device) body) in
      record {
        seen = tt;
        synced = tt;
        whole = tt;
        saved = λ all. tt;
        any_moment = rests;
        happens = λ all. tt;
        happens_err = rests;
        no_more_found = λ full. let kept = k.kept (is.no_more.1 full).0 honest in generation_found SLOT_SIZE k.newest (G.seen k.device) kept.whole kept.newest_is ∙ (is.no_more.1 full).1;
      }

  pub refused_before : (r : Result T KeeperFault) → IsErrAnd r (λ e. e ≡ DiskFault → ⊥) → IsRefused k (length body) r → IsSave calls body k k r
  refused_before (Ok x) other is = absurd other
  refused_before (Err e) other is = record {
    refused = is;
    on_disk = nothing_made e is;
    none = λ calls. refl;
    fresh = tt;
    spoiled = λ disk. absurd (other (let same : e ≡ DiskFault = cc in same));
    same = λ _. refl;
    generation = λ all. tt;
    last = λ h all. tt;
    last_before = λ h less. tt;
    last_err = λ h. refl;
    fits = tt;
    honest = ((λ h. h), (λ h. h));
    count = omega arith;
    told = record { no_less = omega arith; told = λ disk. absurd (other disk) };
  }
