use Rattle.mon_courier.specs.declared.exchange.Stop.TheVariants.{Waits, Fails, Responds}
use Rattle.mon_courier.proofs.Turning.{flown}
use Rattle.mon_courier.proofs.courier.CourierBy.go_on.Goals as goal

pub returns-in-Waits : goal.returns-in-Waits
returns-in-Waits g c =
    flown g.S.Stream.asked_write g.S.Stream.asked_read c.args.now c.args.line.stream c.args.line.since _ c.args.self.now c.wait.new.self c.wait.result
    c.go_on.new.stream c.go_on.new.self Waits c.self.view_is c.in-Waits.ensures c.wait.ensures.state c.wait.ensures.news

pub returns-in-Fails : goal.returns-in-Fails
returns-in-Fails g c =
    flown g.S.Stream.asked_write g.S.Stream.asked_read c.args.now c.args.line.stream c.args.line.since _ c.args.self.now c.fail.new.self c.fail.result
    c.go_on.new.stream c.go_on.new.self (Fails c.in-Fails.cause) c.self.view_is c.in-Fails.ensures c.fail.ensures.state c.fail.ensures.news

pub returns-in-Responds : goal.returns-in-Responds
returns-in-Responds g c =
    flown g.S.Stream.asked_write g.S.Stream.asked_read c.args.now c.args.line.stream c.args.line.since _ c.args.self.now c.judge.new.self c.judge.result
    c.go_on.new.stream c.go_on.new.self (Responds c.in-Responds.status) c.self.view_is c.in-Responds.ensures c.judge.ensures.state c.judge.ensures.news
