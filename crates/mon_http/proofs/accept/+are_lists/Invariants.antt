use Rattle.std.proofs.Common.{length}
use Rattle.mon_http.proofs.accept.+are_lists.Given as goal

abbrev pub decreases-are_lists : goal.decreases-are_lists
decreases-are_lists l = length l.fields.now
