-- Which changes a device with fuses fails.
use Rattle.std.specs.Prelude.{ℕ, ◌<◌, IsBitSet}

-- change number k, counted from 0, is one of the first 64, and bit k is 1
abbrev pub IsBlown : ℕ → ℕ → Type 0
IsBlown fuses number = (number < 64) × IsBitSet fuses number
