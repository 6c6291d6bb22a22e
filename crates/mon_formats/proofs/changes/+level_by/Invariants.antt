use Rattle.std.proofs.Common.{length}
use Rattle.mon_formats.proofs.changes.+level_by.Given as goal

abbrev pub decreases-level_by : goal.decreases-level_by
decreases-level_by l = length l.samples.now
