use Rattle.std.proofs.Common.{◌≤◌, ◌+◌, length}
use Rattle.mon_rehearsal.specs.Script.{lines_of}
use Rattle.mon_rehearsal.proofs.Scripts.{SoFar}
use Rattle.mon_rehearsal.proofs.script.read_script.Given as goal

abbrev pub invariant-loop-rest : goal.invariant-loop-rest
invariant-loop-rest l = record {
  so_far : SoFar (lines_of l.fn.text) l.rest l.line l.steps.items;
  bounded : l.line + length l.rest ≤ length l.fn.text;
}

abbrev pub decreases-loop-rest : goal.decreases-loop-rest
decreases-loop-rest l = length l.rest
