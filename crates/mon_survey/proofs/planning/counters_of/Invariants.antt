use Rattle.std.proofs.Common.{◌≡◌, take}
use Rattle.std.specs.List.{flat_map}
use Rattle.mon_survey.specs.Plan.{counters_from}
use Rattle.mon_survey.proofs.planning.counters_of.Given as goal

-- the counters of the cells so far
abbrev pub invariant-loop-cell : goal.invariant-loop-cell
invariant-loop-cell l = l.counters.items ≡ flat_map (counters_from l.choice l.answers) (take l.cell-index l.answers)
