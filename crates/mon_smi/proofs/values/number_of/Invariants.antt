use Rattle.std.proofs.Common.{◌≡◌, ◌<◌, ◌^◌, length}
use Rattle.mon_smi.specs.Reading.{number_of, number_from}
use Rattle.mon_smi.proofs.values.number_of.Given as goal

abbrev pub invariant-loop-rest : goal.invariant-loop-rest
invariant-loop-rest l = record {
  below : l.number < 2 ^ 32;
  so_far : number_from l.number l.rest ≡ number_of l.digits;
}

abbrev pub decreases-loop-rest : goal.decreases-loop-rest
decreases-loop-rest l = length l.rest
