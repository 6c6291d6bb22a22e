-- What is asked of a network, and what happens at the wires that it opened.
use Rattle.std.specs.Prelude.{List, Option}
use Rattle.mon_app.specs.declared.fault.AppFault.{AppFault}
use Rattle.mon_client.specs.AtWire.{AtWire}
use Rattle.mon_udp.specs.Told.{GoesOnBy}
use Rattle.mon_udp.specs.declared.addr.Addr.{Addr}

-- A wire was opened, and of what happened at it this holds.
pub record HappensBy {W : Type 0} (Opened : W → Type 0) (told : W → Option (List AtWire))
    (Holds : List AtWire → Type 0) : Type 0 where
  pub before : W
  pub opened : Opened before
  pub after : W
  pub happened : GoesOnBy Holds (told before) (told after)

-- Agents as a command reaches them. `Reached agent Holds` says that a wire was opened to the agent
-- at an address and that this holds of what happened at it; `Unreached agent fault` that no wire
-- could be opened to it.
pub record Agents : Type 1 where
  pub Reached : Addr → (List AtWire → Type 0) → Type 0
  pub Unreached : Addr → AppFault → Type 0

-- the agents that are reached by wires of this kind
abbrev pub agents_by : {W : Type 0} → (Opened : Addr → W → Type 0)
    → (Failed : Addr → AppFault → Type 0)
    → (told : W → Option (List AtWire)) → Agents
agents_by Opened Failed told = record {
  Reached = λ agent Holds. HappensBy (Opened agent) told Holds;
  Unreached = Failed;
}
