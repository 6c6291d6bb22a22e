use Rattle.std.proofs.Common.{length}
use Rattle.mon_http.proofs.accept.+preference_in.Given as goal

abbrev pub decreases-preference_in : goal.decreases-preference_in
decreases-preference_in l = length l.fields.now
