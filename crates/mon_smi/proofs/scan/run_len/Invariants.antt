use Rattle.std.proofs.Common.{◌≡◌, ◌+◌, length}
use Rattle.mon_smi.specs.Scan.{is_of, run_at}
use Rattle.mon_smi.proofs.scan.run_len.Given as goal

abbrev pub invariant-loop-rest : goal.invariant-loop-rest
invariant-loop-rest l = record {
  within : l.len + length l.rest ≡ length l.text;
  so_far : l.len + run_at (is_of l.run) l.rest ≡ run_at (is_of l.run) l.text;
}

abbrev pub decreases-loop-rest : goal.decreases-loop-rest
decreases-loop-rest l = length l.rest
