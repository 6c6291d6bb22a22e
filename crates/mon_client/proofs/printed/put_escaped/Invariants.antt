use Rattle.std.proofs.Common.{◌≡◌, ◌++◌, take, string_bytes}
use Rattle.std.specs.List.{flat_map}
use Rattle.mon_client.specs.Printed.{escaped}
use Rattle.mon_client.proofs.printed.put_escaped.Given as goal

-- those so far are written
abbrev pub invariant-loop-octet : goal.invariant-loop-octet
invariant-loop-octet l = string_bytes l.text ≡ string_bytes l.fn.text ++ flat_map escaped (take l.octet-index l.octets)
