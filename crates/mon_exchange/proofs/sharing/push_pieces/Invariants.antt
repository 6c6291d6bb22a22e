use Rattle.std.proofs.Common.{◌≡◌, ℕ, ◌<◌, ◌++◌, length, map}
use Rattle.std.specs.Prelude.{All}
use Rattle.std.specs.List.Sorted.{IsStrictlySortedBy}
use Rattle.std.specs.Ordering.{nat_cmp}
use Rattle.mon_exchange.specs.Portions.{IsPortion, pieces, portion}
use Rattle.mon_exchange.proofs.sharing.push_pieces.Given as goal

-- what was appended and the pieces of what is left are all of it
abbrev pub invariant-loop-rest : goal.invariant-loop-rest
invariant-loop-rest l = record {
  rising : IsStrictlySortedBy nat_cmp l.rest;
  portions : l.portions.items ++ map (portion l.instance) (pieces l.rest) ≡ l.fn.portions.items ++ map (portion l.instance) (pieces l.samples);
  each : (n : ℕ) → l.instance < n → All (IsPortion n) l.fn.portions.items → All (IsPortion n) l.portions.items;
}

abbrev pub decreases-loop-rest : goal.decreases-loop-rest
decreases-loop-rest l = length l.rest
