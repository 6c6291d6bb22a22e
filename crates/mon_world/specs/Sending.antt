-- What goes to peers.
use Rattle.std.specs.Prelude.{ℕ, List, [], ◌∷◌}
use Rattle.mon_station.specs.declared.event.Outgoing.{Outgoing}
use Rattle.mon_station.specs.declared.event.To.{To}
use Rattle.mon_station.specs.declared.event.To.TheVariants as to
use Rattle.mon_world.specs.declared.sending.Datagram.{Datagram}

-- these octets, if they go to a peer, in front of others
abbrev pub with_peer : To → List ℕ → List Datagram → List Datagram
with_peer (to.Target number) octets datagrams = datagrams
with_peer (to.Peer number) octets datagrams = record { to = number; octets = octets } ∷ datagrams

-- what goes to peers, in order
abbrev pub to_peers : List Outgoing → List Datagram
to_peers [] = []
to_peers (out ∷ outs) = with_peer out.to out.octets (to_peers outs)
