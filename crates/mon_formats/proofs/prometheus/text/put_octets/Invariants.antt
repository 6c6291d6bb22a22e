use Rattle.std.proofs.Common.{◌≡◌, ◌++◌, take}
use Rattle.std.specs.List.{flat_map}
use Rattle.mon_formats.specs.Prometheus.{escaped}
use Rattle.mon_formats.proofs.prometheus.text.put_octets.Given as goal

-- those so far are written
abbrev pub invariant-loop-octet : goal.invariant-loop-octet
invariant-loop-octet l = l.text.items ≡ l.fn.text.items ++ flat_map escaped (take l.octet-index l.octets)
