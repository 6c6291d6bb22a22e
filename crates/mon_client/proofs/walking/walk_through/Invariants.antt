use Rattle.std.proofs.Common.{◌≡◌}
use Rattle.mon_client.specs.Walk.{question_after}
use Rattle.mon_client.proofs.Walks.{IsAt}
use Rattle.mon_client.proofs.walking.walk_through.Given as goal

-- the walk went on by this many turns, more lines are taken, and the wire did not fail
abbrev pub invariant-loop-request_id : goal.invariant-loop-request_id
invariant-loop-request_id g l = record {
  walked : IsAt (g.S.NameTexts.shown l.names) (question_after l.asked) l.asked.start.now l.request_id l.last (g.W.Wire.log l.fn.wire) (g.W.Wire.log l.wire)
      (g.H.Host.log l.fn.host) (g.H.Host.log l.host);
  failures : g.W.Wire.failures l.wire ≡ g.W.Wire.failures l.fn.wire;
}
