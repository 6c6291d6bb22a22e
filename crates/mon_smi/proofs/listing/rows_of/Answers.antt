use Rattle.std.proofs.Common.{List, ℕ, map, subst}
use Rattle.std.specs.List.Sorted.{IsPermutation}
use Rattle.std.proofs.lemmas.List.Sorted.{All-permutation, IsPermutation-map}
use Rattle.mon_smi.specs.Listing.{IsMeant, seen}
use Rattle.mon_smi.proofs.Listings.{Lent}
use Rattle.mon_smi.proofs.listing.rows_of.Goals as goal

pub returns-clause-same : goal.returns-clause-same
returns-clause-same c =
    subst (λ (l : List (List ℕ)). IsPermutation l (map (λ (r : Lent). r.1.now) c.sort_unstable.new.self.items)) c.in_ok-rows.ensures.same
    (IsPermutation-map (λ (r : Lent). r.1.now) c.in_ok-rows.rows.items c.sort_unstable.new.self.items c.sort_unstable.ensures.permutation)

pub returns-clause-meant : goal.returns-clause-meant
returns-clause-meant c =
    All-permutation (λ (r : Lent). IsMeant c.args.known.now (seen r)) c.in_ok-rows.rows.items c.sort_unstable.new.self.items c.sort_unstable.ensures.permutation c.in_ok-rows.ensures.meant
