-- What happens at a port that an agent listens at.
use Rattle.std.specs.Prelude.{◌≡◌, ◌⊎◌, ℕ, List, [], ◌∷◌, take, Option, Result, Ok, Err}
use Rattle.mon_udp.specs.Counts.{next_count}
use Rattle.mon_udp.specs.Told.{extended}
use Rattle.mon_app.specs.declared.fault.SocketFault.{SocketFault}
use Rattle.mon_serving.specs.declared.port.Received.{Received as AnyReceived}
use Rattle.mon_app.specs.declared.reason.SocketReason.{SocketReason}

-- a datagram came at a time, in hundredths of a second of the agent's life; or a wait failed for
-- a reason; octets were sent to where the last datagram came from, or could not be sent there
pub data AtPort : Type 0 where
  Received : List ℕ → ℕ → AtPort
  Failed : SocketReason → AtPort
  Replied : List ℕ → AtPort
  Unsent : List ℕ → AtPort

-- what happens in a wait, if this is then in the buffer
abbrev pub receiving : List ℕ → Result AnyReceived SocketFault → List AtPort
receiving room (Ok received) = Received (take received.len room) received.moment ∷ []
receiving room (Err fault) = Failed fault.reason ∷ []

-- what happens in a sending: the octets were sent, or could not be sent
abbrev pub IsReplied : List ℕ → List AtPort → Type 0
IsReplied octets log = (log ≡ Replied octets ∷ []) ⊎ (log ≡ Unsent octets ∷ [])

-- a count of failures after what happened
abbrev pub failures_in : List AtPort → ℕ → ℕ
failures_in [] count = count
failures_in (Received octets moment ∷ rest) count = failures_in rest count
failures_in (Failed reason ∷ rest) count = failures_in rest (next_count count)
failures_in (Replied octets ∷ rest) count = failures_in rest count
failures_in (Unsent octets ∷ rest) count = failures_in rest (next_count count)

-- More happened, of which this holds: the port states it, if it states anything, and counted what
-- failed.
pub record Happens (Holds : List AtPort → Type 0) (told_before told_after : Option (List AtPort))
    (failures_before failures_after : ℕ) : Type 0 where
  pub more : List AtPort
  pub holds : Holds more
  pub told : told_after ≡ extended told_before more
  pub failures : failures_after ≡ failures_in more failures_before
