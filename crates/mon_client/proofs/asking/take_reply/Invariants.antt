use Rattle.std.proofs.Common.{◌≡◌}
use Rattle.mon_client.specs.Question.{asked_in}
use Rattle.mon_client.proofs.Askings.{AreHeard}
use Rattle.mon_client.proofs.asking.take_reply.Given as goal

-- what was received is no reply, and the wire did not fail
abbrev pub invariant-loop : goal.invariant-loop
invariant-loop g l = record {
  heard : AreHeard (asked_in l.question) l.counter (g.W.Wire.log l.fn.wire) (g.W.Wire.log l.wire);
  failures : g.W.Wire.failures l.wire ≡ g.W.Wire.failures l.fn.wire;
}
