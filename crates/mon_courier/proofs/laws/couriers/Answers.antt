use Rattle.mon_courier.proofs.Kept.{kept}
use Rattle.mon_courier.proofs.laws.couriers.Goals as goal

pub returns : goal.returns
returns g c = kept g.S.Stream.asked_connect g.S.Stream.asked_write g.S.Stream.asked_read
