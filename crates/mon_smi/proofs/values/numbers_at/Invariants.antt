use Rattle.mon_smi.specs.declared.kind.TokenKind.TheVariants.{RightBrace}
use Rattle.mon_smi.specs.Reading.{component_at, single, begins}
use Rattle.mon_smi.proofs.ForValues.{IsBehind}
use Rattle.mon_smi.proofs.values.numbers_at.Given as goal

abbrev pub invariant-loop-numbers : goal.invariant-loop-numbers
invariant-loop-numbers l = IsBehind component_at single (begins RightBrace) l.ls l.numbers.items l.left

abbrev pub decreases-loop-numbers : goal.decreases-loop-numbers
decreases-loop-numbers l = l.left
