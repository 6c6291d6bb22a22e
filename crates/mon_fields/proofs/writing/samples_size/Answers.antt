use Rattle.std.proofs.Common.{sym}
use Rattle.mon_fields.proofs.Loops.{length-samples}
use Rattle.mon_fields.proofs.writing.samples_size.Goals as goal

pub returns : goal.returns
returns c = sym (length-samples c.args.samples.now)
