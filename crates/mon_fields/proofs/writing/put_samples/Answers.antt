use Rattle.std.proofs.Common.{length, arith}
use Rattle.mon_fields.proofs.Loops.{length-samples}
use Rattle.mon_fields.proofs.writing.put_samples.Goals as goal

pub unwrap-requires : goal.unwrap-requires
unwrap-requires c = c.resize.ensures.succeeds (omega (arith, length-samples c.args.samples.now, c.requires))
