-- Receiving a station's datagrams while HTTP is served.
use Rattle.std.specs.Prelude.{◌≡◌, ◌<◌, ◌+◌, ◌-◌, ℕ, zero, suc, Option, nat_lt, if◌then◌else◌}
use Rattle.std.specs.Time.{instant_nanos}
use Rattle.std.specs.declared.net.socket_addr.SocketAddr.{SocketAddr}
use Rattle.std.specs.declared.time.Instant.{Instant}
use Rattle.httpdate.specs.declared.date.HttpDate.{HttpDate as Date}
use Rattle.mon_rounds.specs.Grid.{milliseconds_of}
use Rattle.mon_rounds.specs.declared.receiver.Arrival.{Arrival}
use Rattle.mon_rounds.specs.declared.receiver.Arrival.TheVariants.{Datagram, Quiet}
use Rattle.mon_udp.specs.Wait.{IsOn, IsOver, left_at}
use Rattle.mon_udp.specs.declared.timer.Timer.{Timer}
use Rattle.mon_web.specs.declared.response.Moment.{Moment}
use Rattle.mon_web_receiver.specs.declared.receiver.Attempt.{Attempt}
use Rattle.mon_web_receiver.specs.declared.receiver.Attempt.TheVariants.{Received, Over, Served}

-- no silence of a socket ends a wait: only the clock does
abbrev pub no_silence : ℕ → Type 0
no_silence nanoseconds = ⊥

-- what is said to clients at a time: how long it is since this origin, and this date
abbrev pub moment_at : (origin now : Instant) → Option Date → Moment
moment_at origin now date =
    record { now = milliseconds_of (instant_nanos now - instant_nanos origin); date = date }

-- HTTP had a turn at a time, with the date that was returned, and could wait this many nanoseconds
abbrev pub HadTurn : {W : Type 0} → (Dated : Option Date → Type 0)
    → (Gave : W → Moment → ℕ → W → Type 0) → (origin : Instant) → (before after : W)
    → Instant → ℕ → Type 0
HadTurn Dated Gave origin before after now wait =
    (date : Option Date) × Dated date × Gave before (moment_at origin now date) wait after

-- How long HTTP may wait in its turn after this many datagrams: for what is left of the wait, or
-- not at all if datagrams had it wait.
abbrev pub wait_after : ℕ → ℕ → ℕ
wait_after datagrams left = if nat_lt datagrams 64 then left else 0

-- HTTP had a turn in a wait: at a time that the clock returned, while something of the wait was
-- left
pub record IsServed (Told : Instant → Type 0) (Turn : Instant → ℕ → Type 0) (datagrams : ℕ)
    (t : Timer) : Type 0 where
  pub now : Instant
  pub told : Told now
  pub left : 0 < left_at t now
  pub turn : Turn now (wait_after datagrams (left_at t now))

-- an attempt to receive in a wait, by the time that the clock returned in it: a datagram that came
-- while the wait was on; or the wait is over, whatever came; or HTTP had a turn after this many
-- datagrams
abbrev pub IsAttempt : (Told : Instant → Type 0) (Found : ℕ → SocketAddr → Type 0)
    (Turn : Instant → ℕ → Type 0) → (datagrams : ℕ) → Timer → Attempt → Type 0
IsAttempt Told Found Turn datagrams t (Received len from) = IsOn Told t × Found len from
IsAttempt Told Found Turn datagrams t Over = IsOver Told no_silence t
IsAttempt Told Found Turn datagrams t Served = IsServed Told Turn datagrams t

-- how many datagrams came since HTTP had a turn, before and after an attempt: 64 at most. What
-- serves HTTP is touched in its turn only
abbrev pub TakesTurns : {W : Type 0} → (before after : ℕ) → (old new : W) → Attempt → Type 0
TakesTurns before after old new (Received len from) =
    (before < 64) × (after ≡ before + 1) × (new ≡ old)
TakesTurns before after old new Over = (after ≡ before) × (new ≡ old)
TakesTurns before after old new Served = after ≡ 0

-- a turn in a wait, after some number of datagrams: what serves HTTP before it and after
abbrev pub IsTurnIn : {W : Type 0} → (Told : Instant → Type 0) → (Dated : Option Date → Type 0)
    → (Gave : W → Moment → ℕ → W → Type 0) → (origin : Instant) → Timer → (before after : W)
    → Type 0
IsTurnIn Told Dated Gave origin t before after =
    (datagrams : ℕ) × IsServed Told (HadTurn Dated Gave origin before after) datagrams t

-- this many turns one after another: what serves HTTP before the first and after the last
pub data AreTurns {W : Type 0} (IsOne : W → W → Type 0) : ℕ → W → W → Type 0 where
  none : (web : W) → AreTurns IsOne 0 web web
  more : (n : ℕ) (first last new : W) → AreTurns IsOne n first last → IsOne last new
      → AreTurns IsOne (suc n) first new

-- how many datagrams came since HTTP had a turn, after this many turns
abbrev pub since_turns : ℕ → ℕ → ℕ
since_turns zero datagrams = datagrams
since_turns (suc n) datagrams = 0

-- a datagram is received only if fewer than 64 came since HTTP had a turn, and it is counted
abbrev pub IsCounted : Arrival → (before after : ℕ) → Type 0
IsCounted (Datagram address octets) before after = (before < 64) × (after ≡ before + 1)
IsCounted Quiet before after = after ≡ before

-- What HTTP had in a reception: turns one after another, and one at least where a datagram was
-- received though 64 had come since the last.
pub record HadTurns {W : Type 0} (IsOne : W → W → Type 0) (before after : ℕ) (old new : W)
    (arrival : Arrival) : Type 0 where
  pub count : ℕ
  pub turns : AreTurns IsOne count old new
  pub counted : IsCounted arrival (since_turns count before) after
