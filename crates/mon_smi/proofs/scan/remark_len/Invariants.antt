use Rattle.std.proofs.Common.{◌≡◌, ◌+◌, length}
use Rattle.mon_smi.specs.Scan.{remark_at}
use Rattle.mon_smi.proofs.scan.remark_len.Given as goal

abbrev pub invariant-loop-rest : goal.invariant-loop-rest
invariant-loop-rest l = record {
  within : l.len + length l.rest ≡ length l.text;
  so_far : l.len + remark_at l.rest ≡ remark_at l.text;
}

abbrev pub decreases-loop-rest : goal.decreases-loop-rest
decreases-loop-rest l = length l.rest
