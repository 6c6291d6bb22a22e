-- What is asked of a network, and what happens at the ports that it opened.
use Rattle.std.specs.Prelude.{ℕ, List, Option}
use Rattle.std.specs.declared.net.socket_addr.SocketAddr.{SocketAddr}
use Rattle.mon_app.specs.declared.fault.AppFault.{AppFault}
use Rattle.mon_serving.specs.AtPort.{AtPort, Happens}
use Rattle.mon_udp.specs.declared.addr.Addr.{Addr}

-- A port was opened, and of what happened at it this holds.
pub record HappensAt {P : Type 0} (Opened : P → Type 0) (told : P → Option (List AtPort))
    (failures : P → ℕ) (Holds : List AtPort → Type 0) : Type 0 where
  pub before : P
  pub opened : Opened before
  pub after : P
  pub happened : Happens Holds (told before) (told after) (failures before) (failures after)

-- Ports as a command opens them. `Served listen at Holds` says that a port was opened for an
-- address, that it has this one, and that this holds of what happened at it; `Deaf listen fault`
-- that none could be opened there.
pub record Ports : Type 1 where
  pub Served : Addr → SocketAddr → (List AtPort → Type 0) → Type 0
  pub Deaf : Addr → AppFault → Type 0

-- the ports of this kind
abbrev pub ports_by : {P : Type 0} → (Opened : Addr → P → SocketAddr → Type 0)
    → (Failed : Addr → AppFault → Type 0) → (told : P → Option (List AtPort)) → (failures : P → ℕ)
    → Ports
ports_by Opened Failed told failures = record {
  Served = λ listen at Holds. HappensAt (λ p. Opened listen p at) told failures Holds;
  Deaf = Failed;
}
