use Rattle.std.proofs.Common.{take}
use Rattle.mon_smi.specs.Labels.{AreLabels, AreWithin}
use Rattle.mon_smi.proofs.labels.Labels.new.Given as goal

-- the labels among the definitions so far, and how long their identifiers are
abbrev pub invariant-loop-definition : goal.invariant-loop-definition
invariant-loop-definition l = record {
  labels : AreLabels l.defs (take l.definition-index l.defs) l.by_identifier;
  within : AreWithin l.longest l.by_identifier;
}
