use Rattle.std.proofs.Common.{List, ℕ, map, subst}
use Rattle.std.specs.List.Sorted.{IsPermutation}
use Rattle.std.proofs.lemmas.List.Sorted.{IsPermutation-map}
use Rattle.mon_smi.proofs.listing.sorted_names.Goals as goal
use Rattle.mon_smi.proofs.Listings.{Name}

pub returns-clause-same : goal.returns-clause-same
returns-clause-same c =
    subst (λ (l : List (List ℕ)). IsPermutation l (map (λ (n : Name). n.now) c.sort_unstable.new.self.items)) c.in_ok-names.ensures
    (IsPermutation-map (λ (n : Name). n.now) c.in_ok-names.names.items c.sort_unstable.new.self.items c.sort_unstable.ensures.permutation)
