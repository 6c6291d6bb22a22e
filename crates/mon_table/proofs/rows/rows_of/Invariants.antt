use Rattle.std.proofs.Common.{◌≡◌, ◌++◌, drop}
use Rattle.mon_table.specs.Rows.{rows_from}
use Rattle.mon_table.proofs.rows.rows_of.Given as goal

-- the rows so far, and those of the instances that are left, are all
abbrev pub invariant-loop-place : goal.invariant-loop-place
invariant-loop-place l = l.rows.items ++ rows_from l.entries l.place (drop l.place l.entries) ≡ rows_from l.entries 0 l.entries
