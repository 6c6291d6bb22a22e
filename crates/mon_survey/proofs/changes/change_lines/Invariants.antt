use Rattle.std.proofs.Common.{◌≡◌, take}
use Rattle.std.specs.Prelude.{map, string_bytes}
use Rattle.mon_survey.specs.Changes.{change_line}
use Rattle.mon_survey.specs.Moved.{at_of}
use Rattle.mon_survey.proofs.changes.change_lines.Given as goal

-- the lines so far
abbrev pub invariant-loop-change : goal.invariant-loop-change
invariant-loop-change l = map string_bytes l.lines.items ≡ map (change_line (at_of l.places)) (take l.change-index l.change-items)
