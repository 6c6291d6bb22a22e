-- The times at which a station's rounds begin.
use Rattle.std.specs.Prelude.{◌≡◌, ℕ, ◌+◌, ◌*◌, ◌/◌, ◌^◌, ◌<◌, ◌≤◌, List, length, min, nat_lt}
use Rattle.std.specs.List.{count_by}

-- a round begins at this time: at the phase, or whole intervals after it
abbrev pub IsStart : ℕ → ℕ → ℕ → Type 0
IsStart interval phase t = (k : ℕ) × (t ≡ phase + k * interval)

-- the first time after now at which a round begins
pub record IsNextStart (now interval phase start : ℕ) : Type 0 where
  pub starts : IsStart interval phase start
  pub after : now < start
  pub first : (t : ℕ) → IsStart interval phase t → now < t → start ≤ t

-- the whole milliseconds of a time in nanoseconds, at most 2^60
abbrev pub milliseconds_of : ℕ → ℕ
milliseconds_of nanoseconds = min (nanoseconds / 1_000_000) (2 ^ 60)

-- of k stations, by their numbers, the j-th begins at j/k of the interval, j from 0
abbrev pub share_of : ℕ → List ℕ → ℕ → ℕ
share_of station peers interval = interval * count_by (λ peer. nat_lt peer station) peers /
    (length peers + 1)
