-- Watches of one file.
use Rattle.std.specs.Prelude.{◌≡◌, ◌<◌, ℕ, List, length, slice_index_or}
use Rattle.mon_board.specs.declared.instance.Watched.{Watched}

-- an equal instance, with a window of equal sizes
pub record IsAlike (old new : Watched) : Type 0 where
  pub instance : old.instance ≡ new.instance
  pub window : old.window ≡ new.window
  pub epoch : old.epoch ≡ new.epoch

-- equal instances in their places, each with a window of equal sizes
pub record AreAlike (old new : List Watched) : Type 0 where
  pub number : length old ≡ length new
  pub each : (i : ℕ) (d : Watched) → i < length old
      → IsAlike (slice_index_or old i d) (slice_index_or new i d)
