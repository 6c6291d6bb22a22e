use Rattle.std.proofs.Common.{length}
use Rattle.mon_health_commands.proofs.asking.+send.Given as goal

abbrev pub decreases-send : goal.decreases-send
decreases-send g l = length l.octets.now
