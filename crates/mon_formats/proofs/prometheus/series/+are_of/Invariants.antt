use Rattle.std.proofs.Common.{length}
use Rattle.mon_formats.proofs.prometheus.series.+are_of.Given as goal

-- how many are left
abbrev pub decreases-are_of : goal.decreases-are_of
decreases-are_of l = length l.instances.now
