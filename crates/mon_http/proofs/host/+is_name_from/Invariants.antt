use Rattle.std.proofs.Common.{length}
use Rattle.mon_http.proofs.host.+is_name_from.Given as goal

abbrev pub decreases-is_name_from : goal.decreases-is_name_from
decreases-is_name_from l = length l.rest.now
