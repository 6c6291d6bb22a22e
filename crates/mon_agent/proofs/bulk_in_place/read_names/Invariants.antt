use Rattle.std.proofs.Common.{length}
use Rattle.mon_agent.proofs.Filling.{IsUnnamed}
use Rattle.mon_agent.proofs.bulk_in_place.read_names.Given as goal

-- what is listed of what is left completes it
abbrev pub invariant-loop-rest : goal.invariant-loop-rest
invariant-loop-rest l = IsUnnamed l.fn.octets l.fn.names.items l.rest l.names.items

abbrev pub decreases-loop-rest : goal.decreases-loop-rest
decreases-loop-rest l = length l.rest
