use Rattle.std.proofs.Common.{◌≡◌, map, string_bytes, take}
use Rattle.mon_udp.specs.Addr.{addr_text}
use Rattle.mon_console.proofs.labels.addresses_of.Given as goal

-- those so far are made
abbrev pub invariant-loop-target : goal.invariant-loop-target
invariant-loop-target l = map string_bytes l.addresses.items ≡ map (λ t. addr_text t.address) (take l.target-index l.targets)
