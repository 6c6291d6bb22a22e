use Rattle.std.proofs.Common.{length}
use Rattle.mon_reasons.proofs.newest_datagrams.+message_with.Given as goal

-- how many datagrams are left
abbrev pub decreases-message_with : goal.decreases-message_with
decreases-message_with l = length l.datagrams.now
