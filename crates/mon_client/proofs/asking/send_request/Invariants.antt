use Rattle.std.proofs.Common.{◌≡◌}
use Rattle.mon_client.specs.Question.{asked_in}
use Rattle.mon_client.proofs.Askings.{AreSent}
use Rattle.mon_client.proofs.asking.send_request.Given as goal

-- it was sent this often, and no reply was received
abbrev pub invariant-loop : goal.invariant-loop
invariant-loop g l = record {
  sent : AreSent (asked_in l.question) l.counter (g.W.Wire.log l.fn.wire) (g.W.Wire.log l.wire);
  failures : g.W.Wire.failures l.wire ≡ g.W.Wire.failures l.fn.wire;
}
