use Rattle.std.proofs.Common.{◌≡◌, take}
use Rattle.mon_rounds.specs.Freshness.{new_peer, numbered}
use Rattle.mon_rounds.proofs.freshness.new_peers.Given as goal

-- those so far
abbrev pub invariant-loop-place : goal.invariant-loop-place
invariant-loop-place l = l.peers.items ≡ numbered new_peer 0 (take l.place l.stations)
