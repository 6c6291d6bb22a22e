use Rattle.std.proofs.Common.{◌≡◌, map, take}
use Rattle.mon_rounds.proofs.addresses.target_addresses.Given as goal

-- those so far
abbrev pub invariant-loop-target : goal.invariant-loop-target
invariant-loop-target l = l.addresses.items ≡ map (λ t. t.address) (take l.target-index l.targets)
