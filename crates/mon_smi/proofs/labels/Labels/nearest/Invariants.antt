use Rattle.std.proofs.Common.{◌≡◌, ◌≤◌, length}
use Rattle.mon_smi.specs.Labels.{label_of, longest}
use Rattle.mon_smi.proofs.labels.Labels.nearest.Given as goal

-- no longer beginning has a label
abbrev pub invariant-loop-len : goal.invariant-loop-len
invariant-loop-len l = record {
  within : l.len ≤ length l.parts;
  rest : longest (label_of l.self) l.parts (length l.parts) ≡ longest (label_of l.self) l.parts l.len;
}

abbrev pub decreases-loop-len : goal.decreases-loop-len
decreases-loop-len l = l.len
