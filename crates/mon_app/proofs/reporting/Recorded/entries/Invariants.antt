use Rattle.std.proofs.Common.{◌≡◌, map, take}
use Rattle.mon_app.specs.Reported.{reported_row}
use Rattle.mon_app.proofs.reporting.Recorded.entries.Given as goal

-- those of the rows so far
abbrev pub invariant-loop-row : goal.invariant-loop-row
invariant-loop-row l = l.entries.items ≡ map reported_row (take l.row-index l.row-items)
