use Rattle.mon_serving.specs.AtPort.{Happens}
use Rattle.mon_serving.specs.Served.{AreFailures}
use Rattle.mon_serving.proofs.serving.next_datagram.Given as goal

-- this many waits failed
abbrev pub invariant-loop : goal.invariant-loop
invariant-loop g l = Happens (AreFailures l.counter) (g.P.Port.log l.fn.port) (g.P.Port.log l.port) (g.P.Port.failures l.fn.port) (g.P.Port.failures l.port)
