-- What goes to a socket and comes from it.
use Rattle.std.specs.Prelude.{◌≡◌, ℕ, Option, Some, None, List, take, slice_get}
use Rattle.std.specs.declared.net.socket_addr.SocketAddr.{SocketAddr}
use Rattle.mon_udp.specs.declared.addr.Addr.{Addr}
use Rattle.std.specs.declared.time.Instant.{Instant}
use Rattle.mon_udp.specs.Addr.{addr_in}
use Rattle.mon_udp.specs.Wait.{IsOn, IsOver}
use Rattle.mon_udp.specs.declared.timer.Timer.{Timer}
use Rattle.mon_station.specs.declared.event.To.{To}
use Rattle.mon_station.specs.declared.event.To.TheVariants.{Target, Peer}
use Rattle.mon_rounds.specs.declared.addresses.Addresses.{Addresses}
use Rattle.mon_rounds.specs.declared.receiver.Arrival.{Arrival}
use Rattle.mon_rounds.specs.declared.receiver.Arrival.TheVariants.{Datagram, Quiet}
use Rattle.mon_rounds.specs.Reached.{peer_address}

-- where what is sent to a target or a peer goes: the target's address by its number, the peer's by
-- its station's
abbrev pub goes_to : Addresses → To → Option Addr
goes_to a (Target number) = slice_get a.targets.items number
goes_to a (Peer station) = peer_address a.peers.items a.peer_addresses.items station

-- these octets were sent where they go, if they go anywhere
abbrev pub IsSentTo : (List ℕ → Addr → Type 0) → Option Addr → List ℕ → Type 0
IsSentTo Sent None octets = ⊥
IsSentTo Sent (Some to) octets = Sent octets to

-- what is received if these octets are in the buffer, this many of them, from this address
abbrev pub IsArrival : List ℕ → ℕ → SocketAddr → Arrival → Type 0
IsArrival room len from (Datagram address octets) = (addr_in from ≡ Some address)
    × (octets ≡ take len room)
IsArrival room len from Quiet = ⊥

-- What is received in a wait: a datagram that the system put into this buffer while the wait was
-- on, or nothing if the wait is over.
abbrev pub IsGot : (Told : Instant → Type 0) (Silent : ℕ → Type 0)
    (Received : List ℕ → ℕ → SocketAddr → Type 0) → List ℕ → Timer → Arrival → Type 0
IsGot Told Silent Received room t (Datagram address octets) =
    IsOn Told t × (len : ℕ) × (from : SocketAddr) × Received room len from
    × IsArrival room len from (Datagram address octets)
IsGot Told Silent Received room t Quiet = IsOver Told Silent t
