-- Why octets name no watch.
use Rattle.std.specs.Prelude.{◌≡◌, ◌⊎◌, ℕ, List, Ok}
use Rattle.mon_board.specs.declared.instance.Watched.{Watched}
use Rattle.mon_board.specs.Instance.{AreInstances}
use Rattle.mon_saved.specs.declared.fault.ImageFault.{ImageFault}
use Rattle.mon_saved.specs.declared.fault.ImageFault.TheVariants.{BadImage}
use Rattle.mon_saved.specs.Reading.{Fails}
use Rattle.mon_own_watch.specs.Reading.{named_at}

-- the octets name instances of which no watch can be made, since they do not rise
abbrev pub IsUnwatched : List ℕ → Type 0
IsUnwatched octets = (watched : List Watched) × (named_at octets ≡ Ok watched)
    × ¬ (AreInstances watched)

-- reading fails so, unless memory ran out; or all is read, and the instances are none of a watch
abbrev pub IsUnnamed : List ℕ → ImageFault → Type 0
IsUnnamed octets fault = Fails fault (named_at octets) ⊎ ((fault ≡ BadImage) × IsUnwatched octets)
