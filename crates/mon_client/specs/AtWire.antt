-- What happens at a wire to an agent.
use Rattle.std.specs.Prelude.{ℕ, ◌≤◌, List, [], ◌∷◌, take, Result, Ok, Err}
use Rattle.mon_udp.specs.Counts.{next_count}
use Rattle.mon_app.specs.declared.fault.AppFault.{AppFault}
use Rattle.mon_app.specs.declared.fault.AppFault.TheVariants.{SocketFault}
use Rattle.mon_client.specs.declared.wire.Heard.{Heard as AnyHeard}
use Rattle.mon_client.specs.declared.wire.Heard.TheVariants as heard

-- octets were sent; a datagram of the agent's was received, or something else; or the wait was over
pub data AtWire : Type 0 where
  Sent : List ℕ → AtWire
  Heard : List ℕ → AtWire
  Other : AtWire
  Quiet : AtWire

-- what happens in a sending
abbrev pub sending : {A F : Type 0} → List ℕ → Result A F → List AtWire
sending octets (Ok done) = Sent octets ∷ []
sending octets (Err fault) = []

-- what was received, if this is then in the buffer
abbrev pub heard_as : List ℕ → AnyHeard → List AtWire
heard_as room (heard.Datagram len) = Heard (take len room) ∷ []
heard_as room heard.Other = Other ∷ []
heard_as room heard.Quiet = Quiet ∷ []

-- what happens in a wait
abbrev pub hearing : {F : Type 0} → List ℕ → Result AnyHeard F → List AtWire
hearing room (Ok heard) = heard_as room heard
hearing room (Err fault) = []

-- what was received fits the buffer
abbrev pub FitsRoom : ℕ → AnyHeard → Type 0
FitsRoom room (heard.Datagram len) = len ≤ room
FitsRoom room heard.Other = Unit {0}
FitsRoom room heard.Quiet = Unit {0}

-- a socket's count of failures after a call that answers a socket's fault exactly where the socket
-- failed
abbrev pub socket_failures : {A : Type 0} → Result A AppFault → ℕ → ℕ
socket_failures (Ok given) count = count
socket_failures (Err (SocketFault reason)) count = next_count count
socket_failures (Err other) count = count
