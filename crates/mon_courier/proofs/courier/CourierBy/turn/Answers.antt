use Rattle.mon_courier.proofs.Turning.{turned}
use Rattle.mon_courier.proofs.courier.CourierBy.turn.Goals as goal

pub returns-in-None : goal.returns-in-None
returns-in-None g c =
    turned g.S.Stream.asked_connect g.S.Stream.asked_write g.S.Stream.asked_read c.args.now _ c.args.self.now c.start.new.self c.start.result
    c.take.new.self c.self.view_is c.in-None.ensures.value c.in-None.ensures.after c.start.ensures
