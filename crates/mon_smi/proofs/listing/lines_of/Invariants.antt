use Rattle.std.proofs.Common.{◌≡◌, take, string_bytes}
use Rattle.std.specs.List.{flat_map}
use Rattle.mon_smi.specs.Listing.{row_line, seen}
use Rattle.mon_smi.proofs.listing.lines_of.Given as goal

-- the lines of those so far
abbrev pub invariant-loop-oid : goal.invariant-loop-oid
invariant-loop-oid l = string_bytes l.lines ≡ flat_map (λ r. row_line (seen r)) (take l.oid-index l.rows)
