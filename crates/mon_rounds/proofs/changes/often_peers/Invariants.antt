use Rattle.std.proofs.Common.{◌≡◌, map, take}
use Rattle.mon_rounds.specs.Changes.{offers_often}
use Rattle.mon_rounds.proofs.changes.often_peers.Given as goal

-- those so far
abbrev pub invariant-loop-peer : goal.invariant-loop-peer
invariant-loop-peer l = l.often.items ≡ map offers_often (take l.peer-index l.peers)
