use Rattle.std.proofs.Common.{◌≡◌, drop}
use Rattle.mon_http_client.specs.Target.{passes}
use Rattle.mon_http_client.proofs.target.passes.Given as goal

abbrev pub invariant-loop-i : goal.invariant-loop-i
invariant-loop-i l = passes 0 l.octets ≡ passes l.owed (drop l.i l.octets)
