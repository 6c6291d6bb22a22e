use Rattle.std.proofs.Common.{◌≡◌, ◌++◌, string_bytes}
use Rattle.mon_placing.specs.Network.{hosts_of}
use Rattle.mon_placing.proofs.texts.put_hosts.Given as goal

-- what was appended for the stations so far
abbrev pub invariant-loop-station : goal.invariant-loop-station
invariant-loop-station l = string_bytes l.text ≡ string_bytes l.fn.text ++ hosts_of l.network l.part l.station
