use Rattle.std.proofs.Common.{◌≡◌, map, take}
use Rattle.mon_smi.specs.Listing.{names_in}
use Rattle.mon_smi.proofs.listing.names_of.Given as goal

-- the names of those so far
abbrev pub invariant-loop-definition : goal.invariant-loop-definition
invariant-loop-definition l = map (λ n. n.now) l.names.items ≡ names_in (take l.definition-index l.definitions)
