-- Waits: how long they are, what is left of them, and what a reception in one gives.
use Rattle.std.specs.Prelude.{◌≡◌, ◌<◌, ◌+◌, ◌-◌, ◌*◌, ◌⊎◌, ℕ, Option, Some, None, min}
use Rattle.std.specs.Time.{instant_nanos}
use Rattle.std.specs.declared.net.socket_addr.SocketAddr.{SocketAddr}
use Rattle.std.specs.declared.time.Instant.{Instant}
use Rattle.mon_udp.specs.declared.timer.Timer.{Timer}

-- What is left of a wait at a time, all in nanoseconds: it is over when it was idle for its
-- length, and at the latest four times its length after it started.
abbrev pub left_of : (length began quiet now : ℕ) → ℕ
left_of length began quiet now = min (length - (now - quiet)) (4 * length - (now - began))

-- what is left of a timer's wait at a time, in nanoseconds
abbrev pub left_at : Timer → Instant → ℕ
left_at t now = left_of (t.milliseconds * 1_000_000) (instant_nanos t.began) (instant_nanos t.quiet)
    (instant_nanos now)

-- a wait of this many milliseconds that begins at this time
abbrev pub begun : ℕ → Instant → Timer
begun milliseconds now = record { milliseconds = milliseconds; began = now; quiet = now }

-- a wait that is renewed at this time: idle since then, with its length and its start as before
abbrev pub renewed : Timer → Instant → Timer
renewed t now = record { milliseconds = t.milliseconds; began = t.began; quiet = now }

-- a wait of this many milliseconds begins at a time that the clock returned
abbrev pub Begins : (Told : Instant → Type 0) → ℕ → Timer → Type 0
Begins Told milliseconds new = (now : Instant) × Told now × (new ≡ begun milliseconds now)

-- a wait is idle since a time that the clock returned
abbrev pub Renews : (Told : Instant → Type 0) → (old new : Timer) → Type 0
Renews Told old new = (now : Instant) × Told now × (new ≡ renewed old now)

-- a wait is over at a time that the clock returned: nothing of it is left, or nothing came in what
-- was left
pub record IsOver (Told : Instant → Type 0) (Quiet : ℕ → Type 0) (t : Timer) : Type 0 where
  pub now : Instant
  pub told : Told now
  pub over : (left_at t now ≡ 0) ⊎ Quiet (left_at t now)

-- something of a wait is left at a time that the clock returned
pub record IsOn (Told : Instant → Type 0) (t : Timer) : Type 0 where
  pub now : Instant
  pub told : Told now
  pub left : 0 < left_at t now

-- what a reception in a wait gives: a datagram that was received while the wait was on, or nothing
-- if it is over
abbrev pub IsReception : (Told : Instant → Type 0) (Quiet : ℕ → Type 0)
    (Received : ℕ → SocketAddr → Type 0) → Timer → Option (ℕ × SocketAddr) → Type 0
IsReception Told Quiet Received t None = IsOver Told Quiet t
IsReception Told Quiet Received t (Some r) = IsOn Told t × Received r.0 r.1
