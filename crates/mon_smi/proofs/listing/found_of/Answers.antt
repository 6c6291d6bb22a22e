use Rattle.std.proofs.Common.{◌≡◌, ◌+◌, List, map, take, subst, sym}
use Rattle.std.specs.List.{All}
use Rattle.mon_smi.specs.Listing.{IsMeant, seen}
use Rattle.mon_smi.proofs.Listings.{Lent, found_more, is_fault}
use Rattle.mon_smi.proofs.listing.found_of.Goals as goal

pub returns-in-Err : goal.returns-in-Err
returns-in-Err c =
    let at = c.loop-name in
    record {
      same = tt;
      meant = tt;
      fault = is_fault c.args.known.now c.args.names.now at.rows.items at.name-index _ c.in-Err.fault c.fault_at.result c.requires c.loop-name-test.true at.invariant.0 at.invariant.1 c.in-Err.ensures.fault c.fault_at.ensures;
    }

pub loop-name-preserved : goal.loop-name-preserved
loop-name-preserved c =
    let at = c.loop-name in
    subst (λ (rows : List Lent). (map (λ r. r.1.now) rows ≡ map (λ n. n.now) (take (at.name-index + 1) c.args.names.now)) × All (λ r. IsMeant c.args.known.now (seen r)) rows)
    (sym c.in_ok-push-in-Ok.ensures.items)
    (found_more c.args.known.now c.args.names.now at.rows.items at.name-index _ c.in-Ok.oid c.loop-name-test.true at.invariant.0 at.invariant.1 c.in-Ok.ensures.found)
