use Rattle.mon_courier.proofs.Turning.{fails_at_once, flies_off}
use Rattle.mon_courier.proofs.courier.CourierBy.begin.Goals as goal

pub returns-in-Ok : goal.returns-in-Ok
returns-in-Ok g c =
    flies_off g.S.Stream.asked_connect g.S.Stream.asked_write g.S.Stream.asked_read c.args.now c.args.self.now c.prepare.new.self c.go_on.new.self c.go_on.result
    c.in-Ok.stream c.prepare.ensures c.in-Ok.ensures c.go_on.ensures

pub returns-in-Err : goal.returns-in-Err
returns-in-Err g c =
    fails_at_once g.S.Stream.asked_connect g.S.Stream.asked_write g.S.Stream.asked_read c.args.now c.args.self.now c.prepare.new.self c.fail.new.self c.fail.result
    c.in-Err.error c.kind.result c.prepare.ensures c.in-Err.ensures c.kind.ensures c.fail.ensures.state c.fail.ensures.news
