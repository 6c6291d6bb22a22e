use Rattle.mon_http_client.specs.Scan.{IsScanned}
use Rattle.mon_http_client.proofs.response.head_length.Given as goal

abbrev pub invariant-loop-i : goal.invariant-loop-i
invariant-loop-i l = IsScanned l.octets l.i l.is_blank
