use Rattle.std.proofs.Common.{arith}
use Rattle.mon_board.specs.Instance.{instances_of}
use Rattle.mon_saved.proofs.Images.{is_found, is_only}
use Rattle.mon_saved.proofs.reading.read.Goals as goal

pub returns-clause-found : goal.returns-clause-found
returns-clause-found c = is_found (instances_of c.args.watch.now.instances) c.args.octets.now c.image_at.result (λ i. omega (arith, c.type_inv.octets i)) c.image_at.ensures

pub returns-clause-only : goal.returns-clause-only
returns-clause-only c = λ image is. is_only c.samples.ensures.again (instances_of c.args.watch.now.instances) c.args.octets.now c.image_at.result image c.image_at.ensures is
