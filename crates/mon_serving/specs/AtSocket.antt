-- What comes to a socket and goes from it, of a port.
use Rattle.std.specs.Prelude.{◌≡◌, ◌⊎◌, ℕ, ◌-◌, ◌/◌, Some}
use Rattle.std.specs.Time.{instant_nanos}
use Rattle.std.specs.declared.net.socket_addr.SocketAddr.{SocketAddr}
use Rattle.std.specs.declared.time.Instant.{Instant}
use Rattle.mon_udp.specs.declared.addr.Addr.{Addr}
use Rattle.mon_udp.specs.Addr.{addr_in}
use Rattle.mon_udp.specs.Counts.{next_count}
use Rattle.mon_serving.specs.declared.port.Received.{Received as AnyReceived}

-- the whole hundredths of a second from one reading of the clock to another; none if it went back
abbrev pub hundredths_between : Instant → Instant → ℕ
hundredths_between from to = (instant_nanos to - instant_nanos from) / 10_000_000

-- a life begins at a time that the clock returned
pub record IsStart (Told : Instant → Instant → Type 0) (began : Instant) : Type 0 where
  pub earlier : Instant
  pub told : Told earlier began

-- A datagram that a port received: the system's, from the address that replies go to, at a time
-- that the clock returned. Its `moment` is how long after `began` that is, in whole hundredths of
-- a second.
pub record IsArrival (Received : ℕ → SocketAddr → Type 0) (Told : Instant → Type 0)
    (began : Instant) (from : Addr) (r : AnyReceived) : Type 0 where
  pub sender : SocketAddr
  pub received : Received r.len sender
  pub replies : addr_in sender ≡ Some from
  pub at : Instant
  pub told : Told at
  pub moment : r.moment ≡ hundredths_between began at

-- a reply was sent, or it could not be sent, and that is counted
abbrev pub IsSentOrCounted : (Sent Unsent : Type 0) (failures_before failures_after : ℕ) → Type 0
IsSentOrCounted Sent Unsent before after =
    (Sent × (after ≡ before)) ⊎ (Unsent × (after ≡ next_count before))
