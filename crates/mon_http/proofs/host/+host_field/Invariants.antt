use Rattle.std.proofs.Common.{length}
use Rattle.mon_http.proofs.host.+host_field.Given as goal

abbrev pub decreases-host_field : goal.decreases-host_field
decreases-host_field l = length l.fields.now
