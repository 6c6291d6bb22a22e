use Rattle.std.proofs.Common.{◌≡◌, ◌++◌, take}
use Rattle.std.specs.List.{flat_map}
use Rattle.mon_formats.specs.Prometheus.{peer_line}
use Rattle.mon_formats.proofs.prometheus.peer.put_peer_metric.Given as goal

-- the head and the lines so far are written
abbrev pub invariant-loop-peer : goal.invariant-loop-peer
invariant-loop-peer l = l.text.items ≡ l.initial.text.items ++ flat_map (peer_line l.station l.metric) (take l.peer-index l.peers)
