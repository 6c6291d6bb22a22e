use Rattle.mon_courier.proofs.Stepping.{goes_on_at, none_left, stops_at}
use Rattle.mon_courier.proofs.exchange.Exchange.+go_on.Goals as goal

pub returns-then-left-eq0 : goal.returns-then-left-eq0
returns-then-left-eq0 g t c =
    none_left g.S.Stream.asked_write g.S.Stream.asked_read c.args.left c.args.stream.now c.args.self.now c.if-left-eq0.true

pub returns-in-GoesOn : goal.returns-in-GoesOn
returns-in-GoesOn g t c =
    goes_on_at g.S.Stream.asked_write g.S.Stream.asked_read c.args.left c.args.stream.now c.step.new.stream c.go_on.new.stream
    c.args.self.now c.step.new.self c.go_on.new.self c.go_on.result c.if-left-eq0.false c.in-GoesOn.ensures c.go_on.ensures

pub returns-in-Stops : goal.returns-in-Stops
returns-in-Stops g t c =
    stops_at g.S.Stream.asked_write g.S.Stream.asked_read c.args.left c.args.stream.now c.step.new.stream
    c.args.self.now c.step.new.self c.in-Stops.stop c.if-left-eq0.false c.in-Stops.ensures
