use Rattle.std.proofs.Common.{length}
use Rattle.mon_reasons.proofs.reason.+value_under.Given as goal

-- how many bindings are left
abbrev pub decreases-value_under : goal.decreases-value_under
decreases-value_under l = length l.bindings.now
