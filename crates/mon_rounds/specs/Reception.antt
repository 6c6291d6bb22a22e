-- What happens at a receiver.
use Rattle.std.specs.Prelude.{ℕ, ◌≡◌, ◌≤◌, ◌<◌, ◌+◌, ◌*◌, ◌-◌, ◌⊎◌, List, [], ◌∷◌, Option, Some}
use Rattle.std.specs.Prelude.{None, Result, Ok, Err, All, sum_by}
use Rattle.std.specs.declared.time.Instant.{Instant}
use Rattle.mon_udp.specs.declared.timer.Timer.{Timer}
use Rattle.mon_udp.specs.Wait.{Begins, Renews}
use Rattle.mon_rounds.specs.declared.receiver.Arrival.{Arrival}
use Rattle.mon_rounds.specs.declared.receiver.Wait.{Wait}
use Rattle.mon_rounds.specs.declared.receiver.Wait.TheVariants.{Begin, Renew, Rest}

-- a call for the next datagram: the wait that it is part of, and what came; nothing where the call
-- failed
pub record Reception : Type 0 where
  pub wait : Wait
  pub arrival : Option Arrival

-- the reception of a call that answered so
abbrev pub reception : {F : Type 0} → Wait → Result Arrival F → List Reception
reception w (Ok arrival) = record { wait = w; arrival = Some arrival } ∷ []
reception w (Err fault) = record { wait = w; arrival = None } ∷ []

-- ---- at a clock
-- a reception in this wait leaves the clock's timer so, by a time that the clock returned in its
-- call
abbrev pub IsTimed : (Told : Instant → Type 0) → Wait → (old new : Timer) → Type 0
IsTimed Told (Begin milliseconds) old new = Begins Told milliseconds new
IsTimed Told Renew old new = Renews Told old new
IsTimed Told Rest old new = new ≡ old

-- ---- how long receptions take
-- how many waits begin with a reception in this wait
abbrev pub begins_of : Wait → ℕ
begins_of (Begin milliseconds) = 1
begins_of Renew = 0
begins_of Rest = 0

-- how many waits begin in these receptions
abbrev pub begins_in : List Reception → ℕ
begins_in log = sum_by (λ r. begins_of r.wait) log

-- a wait that begins lasts this many milliseconds
abbrev pub Lasts : ℕ → Wait → Type 0
Lasts wait_ms (Begin milliseconds) = milliseconds ≡ wait_ms
Lasts wait_ms Renew = Unit {0}
Lasts wait_ms Rest = Unit {0}

-- each wait that begins in these receptions lasts this many milliseconds
abbrev pub EachLasts : ℕ → List Reception → Type 0
EachLasts wait_ms log = All (λ r. Lasts wait_ms r.wait) log

-- at most this many waits begin in these receptions, each of this many milliseconds
pub record HasWaits (most wait_ms : ℕ) (log : List Reception) : Type 0 where
  pub few : begins_in log ≤ most
  pub each : EachLasts wait_ms log

-- a reception that took from one time to another, in nanoseconds
pub record Timed : Type 0 where
  pub reception : Reception
  pub from : ℕ
  pub to : ℕ

-- the time at which a wait is over at the latest: four times its length after this time if it
-- begins then, or else as before
abbrev pub end_of : Wait → (from end : ℕ) → ℕ
end_of (Begin milliseconds) from end = from + 4 * (milliseconds * 1_000_000)
end_of Renew from end = end
end_of Rest from end = end

-- What is asked of a receiver, from this time on, in a wait that is over at the latest at this one:
-- its receptions follow one another, and each is over when its wait is, or at once.
abbrev pub AreTimely : (now end : ℕ) → List Timed → Type 0
AreTimely now end [] = Unit {0}
AreTimely now end (t ∷ all) = (now ≤ t.from) × (t.from ≤ t.to)
    × ((t.to ≤ t.from) ⊎ (t.to ≤ end_of t.reception.wait t.from end))
    × AreTimely t.to (end_of t.reception.wait t.from end) all

-- how long these receptions took together, in nanoseconds
abbrev pub time_in : List Timed → ℕ
time_in all = sum_by (λ t. t.to - t.from) all
