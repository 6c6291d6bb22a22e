use Rattle.std.proofs.Common.{ℕ, arith, subst}
use Rattle.mon_serving.specs.AtPort.{Happens}
use Rattle.mon_serving.specs.Served.{AreFailures}
use Rattle.mon_serving.proofs.Servings.{came, last_wait, none_failed, one_failed}
use Rattle.mon_serving.proofs.serving.next_datagram.Goals as goal

pub loop-init : goal.loop-init
loop-init g c = none_failed (g.P.Port.log c.args.port.now) (g.P.Port.failures c.args.port.now)

pub returns-in-Ok-clause-awaited : goal.returns-in-Ok-clause-awaited
returns-in-Ok-clause-awaited g c = came c.receive.new.room c.receive.result c.loop.counter (g.P.Port.log c.args.port.now) (g.P.Port.log c.loop.port)
    (g.P.Port.log c.receive.new.self) (g.P.Port.failures c.args.port.now) (g.P.Port.failures c.loop.port) (g.P.Port.failures c.receive.new.self)
    c.in-Ok.received (omega arith) c.loop.invariant (c.receive.ensures.log, c.receive.ensures.failures) c.in-Ok.is

pub loop-preserved : goal.loop-preserved
loop-preserved g c = one_failed c.receive.new.room c.receive.result c.loop.counter (g.P.Port.log c.args.port.now) (g.P.Port.log c.loop.port)
    (g.P.Port.log c.receive.new.self) (g.P.Port.failures c.args.port.now) (g.P.Port.failures c.loop.port) (g.P.Port.failures c.receive.new.self)
    c.in_default.field-0 c.loop.invariant (c.receive.ensures.log, c.receive.ensures.failures) c.in_default.is

pub returns-clause-awaited : goal.returns-clause-awaited
returns-clause-awaited g c = last_wait c.receive-2.new.room c.receive-2.result (g.P.Port.log c.args.port.now) (g.P.Port.log c.loop.port)
    (g.P.Port.log c.receive-2.new.self) (g.P.Port.failures c.args.port.now) (g.P.Port.failures c.loop.port) (g.P.Port.failures c.receive-2.new.self)
    (subst (λ (n : ℕ). Happens (AreFailures n) (g.P.Port.log c.args.port.now) (g.P.Port.log c.loop.port) (g.P.Port.failures c.args.port.now) (g.P.Port.failures c.loop.port))
    (omega arith) c.loop.invariant)
    (c.receive-2.ensures.log, c.receive-2.ensures.failures)
