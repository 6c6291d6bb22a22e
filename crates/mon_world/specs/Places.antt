-- Numbers of stations, and what each is set up with.
use Rattle.std.specs.Prelude.{ℕ, zero, suc, ◌≡◌, ◌≤◌, ◌<◌, ◌⊎◌, List, [], ◌∷◌, ◌++◌, ◌==◌}
use Rattle.std.specs.Prelude.{if◌then◌else◌, Some, slice_get}
use Rattle.mon_config.specs.StationCore.{Core}
use Rattle.mon_station.specs.Verdict.{Setting}

-- what has this number, counted from 1
abbrev pub HasNumber : {S : Type 0} → List S → ℕ → S → Type 0
HasNumber xs zero x = ⊥
HasNumber xs (suc n) x = slice_get xs n ≡ Some x

-- the number is one of 1 to the count
abbrev pub IsNumberTo : ℕ → ℕ → Type 0
IsNumberTo count number = (1 ≤ number) × (number ≤ count)

-- it is not
abbrev pub IsNoNumberTo : ℕ → ℕ → Type 0
IsNoNumberTo count number = (number ≡ 0) ⊎ (count < number)

-- the numbers from 1 to the count, without this one
abbrev pub others_to : ℕ → ℕ → List ℕ
others_to x zero = []
others_to x (suc n) = if suc n == x then others_to x n else others_to x n ++ suc n ∷ []

-- what station x of this many is set up with: all others are its peers
abbrev pub setting_at : Core → ℕ → ℕ → Setting
setting_at core count x = record {
  watch = core.watch;
  targets = core.targets;
  own = x;
  peers =
      others_to x count;
}

-- a world has 1 to 16 stations
abbrev pub IsNoCount : ℕ → Type 0
IsNoCount count = (count ≡ 0) ⊎ (16 < count)
