use Rattle.mon_carry.proofs.Images.{no_image}
use Rattle.mon_carry.proofs.old.saved_image.Goals as goal

pub returns-in-Err-clause-fault : goal.returns-in-Err-clause-fault
returns-in-Err-clause-fault c = no_image c.args.watch.now c.args.octets.now c.in-Err.fault c.from.result c.from.ensures c.in-Err.ensures.fault c.in-Err.ensures.only
