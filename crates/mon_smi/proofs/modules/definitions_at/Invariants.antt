use Rattle.std.specs.Prelude.{option_to_list}
use Rattle.mon_smi.specs.Reading.{assignment_at, ends_module}
use Rattle.mon_smi.specs.ModuleFaults.{AllBegin}
use Rattle.mon_smi.proofs.ForValues.{IsBehind}
use Rattle.mon_smi.proofs.modules.definitions_at.Given as goal

abbrev pub invariant-loop-alloc : goal.invariant-loop-alloc
invariant-loop-alloc l = record {
  behind : IsBehind assignment_at option_to_list ends_module l.ls l.body.defs.items l.left;
  begin : AllBegin l.ls l.body.starts.items l.body.defs.items;
}

abbrev pub decreases-loop-alloc : goal.decreases-loop-alloc
decreases-loop-alloc l = l.left
