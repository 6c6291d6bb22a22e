-- Sockets at the addresses that were asked for.
use Rattle.std.specs.Prelude.{◌≡◌, ◌&&◌, ◌||◌, ◌==◌, Bool, true, false, Option, Some, None}
use Rattle.std.specs.Str.{bytes_eq}
use Rattle.std.specs.declared.net.socket_addr.SocketAddr.{SocketAddr}
use Rattle.mon_udp.specs.declared.addr.Addr.{Addr}
use Rattle.mon_udp.specs.Addr.{addr_in}

-- whether a socket that is there does for the address that was asked for: it is that one, or at any
-- port where the port 0 was asked for
abbrev pub does_for : Addr → Option Addr → Bool
does_for asked None = false
does_for asked (Some at) = bytes_eq at.octets asked.octets &&
    (asked.port == 0 || at.port == asked.port)

-- the system was asked to bind a socket to this address, and said that it is at one that does
pub record IsBound (Bound : Addr → Type 0) (Stands : SocketAddr → Type 0) (asked : Addr) : Type 0
  where
    pub bound : Bound asked
    pub there : SocketAddr
    pub stands : Stands there
    pub same : does_for asked (addr_in there) ≡ true
