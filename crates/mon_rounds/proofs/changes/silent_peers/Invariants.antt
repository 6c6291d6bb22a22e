use Rattle.std.proofs.Common.{◌≡◌, map, take}
use Rattle.mon_rounds.specs.Changes.{is_lost}
use Rattle.mon_rounds.proofs.changes.silent_peers.Given as goal

-- those so far
abbrev pub invariant-loop-peer : goal.invariant-loop-peer
invariant-loop-peer l = l.silent.items ≡ map (is_lost l.limit) (take l.peer-index l.peers)
