use Rattle.mon_station.proofs.Windowed.{no_image, of_image}
use Rattle.mon_station.proofs.saved.image_board.Goals as goal

pub returns-in-Ok-clause-found : goal.returns-in-Ok-clause-found
returns-in-Ok-clause-found c = of_image c.args.watch.now c.args.octets.now _ _ c.in-Ok.ensures.found

pub returns-in-Err-clause-fault : goal.returns-in-Err-clause-fault
returns-in-Err-clause-fault c = no_image c.args.watch.now c.args.octets.now c.in-Err.fault c.from.result c.from.ensures c.in-Err.ensures.fault c.in-Err.ensures.only
