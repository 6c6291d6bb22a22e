use Rattle.mon_http.specs.Scan.{IsScanned}
use Rattle.mon_http.proofs.front.scan.Given as goal

abbrev pub invariant-loop-i : goal.invariant-loop-i
invariant-loop-i l = IsScanned l.octets l.i l.is_blank
