use Rattle.std.proofs.Common.{◌≡◌, map, take}
use Rattle.std.specs.List.{All}
use Rattle.mon_smi.specs.Listing.{IsMeant, seen}
use Rattle.mon_smi.proofs.listing.found_of.Given as goal

-- the rows of those so far
abbrev pub invariant-loop-name : goal.invariant-loop-name
invariant-loop-name l = (map (λ r. r.1.now) l.rows.items ≡ map (λ n. n.now) (take l.name-index l.names)) × All (λ r. IsMeant l.known (seen r)) l.rows.items
