use Rattle.mon_rounds.specs.Freshness.{peer_after}
use Rattle.mon_rounds.proofs.InPlace.{AreMappedTo}
use Rattle.mon_rounds.proofs.freshness.add_to_peers.Given as goal

-- those so far are changed, and the others are as they were
abbrev pub invariant-loop-place : goal.invariant-loop-place
invariant-loop-place l = AreMappedTo (peer_after l.span l.report) l.initial.peers l.peers l.place
