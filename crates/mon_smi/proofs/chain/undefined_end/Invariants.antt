use denote.Text.{Utf8}
use denote.Shadow.{shadow}
use Rattle.mon_smi.proofs.Missing.{IsOnTheWay}
use Rattle.mon_smi.proofs.chain.undefined_end.Given as goal

abbrev pub invariant-loop-place : goal.invariant-loop-place
invariant-loop-place l = record {
  text : shadow (Utf8 l.name);
  way : IsOnTheWay l.defs l.word l.name l.left;
}

abbrev pub decreases-loop-place : goal.decreases-loop-place
decreases-loop-place l = l.left
