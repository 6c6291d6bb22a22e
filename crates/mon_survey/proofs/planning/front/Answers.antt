use Rattle.std.proofs.Common.{arith, sym}
use Rattle.std.proofs.lemmas.List.{length-take-le, take_all}
use Rattle.mon_survey.proofs.planning.front.Goals as goal

pub slice_bounds-result-end : goal.slice_bounds-result-end
slice_bounds-result-end c = sym (length-take-le 256 c.args.counters.now (omega arith))

pub returns-else-counters-gt-MAX_INSTANCES : goal.returns-else-counters-gt-MAX_INSTANCES
returns-else-counters-gt-MAX_INSTANCES c = sym (take_all 256 c.args.counters.now (omega arith))
