-- Counts of what happens at the program's edge.
use Rattle.std.specs.Prelude.{ℕ, ◌+◌, ◌-◌, ◌^◌, min, Result, Ok, Err}

-- a count after one more: it stays at 2^64 - 1
abbrev pub next_count : ℕ → ℕ
next_count count = min (count + 1) (2 ^ 64 - 1)

-- a count of failures after what a call gave
abbrev pub failed_after : {A F : Type 0} → Result A F → ℕ → ℕ
failed_after (Ok given) count = count
failed_after (Err fault) count = next_count count
