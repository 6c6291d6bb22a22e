use Rattle.std.proofs.Common.{length}
use Rattle.mon_reasons.proofs.newest_datagrams.+other_engine.Given as goal

-- how many datagrams are left
abbrev pub decreases-other_engine : goal.decreases-other_engine
decreases-other_engine l = length l.datagrams.now
