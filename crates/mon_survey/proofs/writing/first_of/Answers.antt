use Rattle.std.proofs.Common.{arith, sym}
use Rattle.std.proofs.lemmas.List.{length-take-le, take_all}
use Rattle.mon_survey.proofs.writing.first_of.Goals as goal

pub slice_bounds-result-end : goal.slice_bounds-result-end
slice_bounds-result-end c = sym (length-take-le 64 c.args.octets.now (omega arith))

pub returns-else-octets-gt-MAX_SHOWN : goal.returns-else-octets-gt-MAX_SHOWN
returns-else-octets-gt-MAX_SHOWN c = sym (take_all 64 c.args.octets.now (omega arith))
