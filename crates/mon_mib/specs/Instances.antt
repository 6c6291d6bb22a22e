-- How many instances there may be from a start on.
use Rattle.std.specs.Prelude.{ℕ, ◌-◌, ◌+◌, ◌^◌}
use Rattle.mon_mib.specs.declared.start.Start.{Start}
use Rattle.mon_mib.specs.declared.start.Start.TheVariants.{First, Above, Nowhere}

-- the numbers of 32 bits that are left
abbrev pub room : Start → ℕ
room First = 2 ^ 32 + 1
room (Above i) = 2 ^ 32 - i
room Nowhere = 0
