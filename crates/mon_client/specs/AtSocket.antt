-- What goes to a socket and comes from it, of a wire.
use Rattle.std.specs.Prelude.{◌≡◌, ℕ, ◌≤◌, List, [], ◌∷◌, length, Option, Some}
use Rattle.std.specs.declared.net.socket_addr.SocketAddr.{SocketAddr}
use Rattle.std.specs.declared.time.Instant.{Instant}
use Rattle.mon_udp.specs.declared.addr.Addr.{Addr}
use Rattle.mon_udp.specs.declared.timer.Timer.{Timer}
use Rattle.mon_udp.specs.Addr.{addr_in}
use Rattle.mon_udp.specs.Wait.{IsOn, IsOver}
use Rattle.mon_client.specs.declared.wire.Heard.{Heard}
use Rattle.mon_client.specs.declared.wire.Heard.TheVariants.{Datagram, Other, Quiet}

-- a free port of any address
abbrev pub free_port : Addr
free_port = record { octets = 0 ∷ 0 ∷ 0 ∷ 0 ∷ []; port = 0 }

-- what was received is the agent's datagram, all of it, if it comes from the agent's address and
-- fits the buffer; else it is something else
abbrev pub IsHeardFrom : (agent : Addr) (from : Option Addr) (len room : ℕ) → Heard → Type 0
IsHeardFrom agent from len room (Datagram n) = (from ≡ Some agent) × (n ≡ len) × (len ≤ room)
IsHeardFrom agent from len room Other = from ≡ Some agent → len ≤ room → ⊥
IsHeardFrom agent from len room Quiet = ⊥

-- The system put a datagram into this buffer while the wait was on, which is this to one who asks
-- the agent.
pub record IsFound (Told : Instant → Type 0) (Received : ℕ → SocketAddr → Type 0) (agent : Addr)
    (room : ℕ) (t : Timer) (heard : Heard) : Type 0 where
  pub on : IsOn Told t
  pub len : ℕ
  pub sender : SocketAddr
  pub received : Received len sender
  pub is : IsHeardFrom agent (addr_in sender) len room heard

-- What is received in a wait from an agent: what the system put into this buffer, or nothing if the
-- wait is over.
abbrev pub IsHeardIn : (Told : Instant → Type 0) (Silent : ℕ → Type 0)
    (Received : List ℕ → ℕ → SocketAddr → Type 0) (agent : Addr) (room : List ℕ)
    → Timer → Heard → Type 0
IsHeardIn Told Silent Received agent room t Quiet = IsOver Told Silent t
IsHeardIn Told Silent Received agent room t (Datagram n) =
    IsFound Told (Received room) agent (length room) t (Datagram n)
IsHeardIn Told Silent Received agent room t Other =
    IsFound Told (Received room) agent (length room) t Other
