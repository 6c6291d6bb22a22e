use Rattle.std.proofs.Common.{◌≡◌, ◌≤◌, ◌+◌, ◌++◌, length, map}
use Rattle.mon_smi.specs.Names.{chain_numbers}
use Rattle.mon_smi.proofs.chain.join_parents.Given as goal

abbrev pub invariant-loop-definition : goal.invariant-loop-definition
invariant-loop-definition l = record {
  whole : chain_numbers (map (λ d. d.now) l.fn.chain.items) ≡ l.numbers.items ++ chain_numbers (map (λ d. d.now) l.chain.items);
  few : length l.numbers.items ≤ l.room;
  room : l.room + length l.rest ≡ 128;
}

abbrev pub decreases-loop-definition : goal.decreases-loop-definition
decreases-loop-definition l = length l.chain.items
