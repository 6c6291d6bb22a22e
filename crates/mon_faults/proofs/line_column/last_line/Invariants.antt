use Rattle.std.proofs.Common.{◌≡◌, drop}
use Rattle.mon_faults.specs.LineColumn.{line_from}
use Rattle.mon_faults.proofs.line_column.last_line.Given as goal

-- what is left decides
abbrev pub invariant-loop-index : goal.invariant-loop-index
invariant-loop-index l = line_from l.octets l.octets ≡ line_from l.line (drop l.index l.octets)
