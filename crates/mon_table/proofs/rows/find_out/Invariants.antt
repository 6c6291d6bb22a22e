use Rattle.std.proofs.Common.{◌≡◌, drop}
use Rattle.mon_table.specs.Rows.{out_from}
use Rattle.mon_table.proofs.rows.find_out.Given as goal

-- none of those before is it
abbrev pub invariant-loop-place : goal.invariant-loop-place
invariant-loop-place l = out_from l.entry l.place (drop l.place l.entries) ≡ out_from l.entry 0 l.entries
