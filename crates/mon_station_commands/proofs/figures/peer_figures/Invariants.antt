use Rattle.std.proofs.Common.{◌≡◌, map, take}
use Rattle.mon_station_commands.specs.Figures.{peer_of}
use Rattle.mon_station_commands.proofs.figures.peer_figures.Given as goal

-- the figures so far
abbrev pub invariant-loop-peer : goal.invariant-loop-peer
invariant-loop-peer l = l.figures.items ≡ map (peer_of l.limit) (take l.peer-index l.peers)
