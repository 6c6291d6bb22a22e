-- An agent that is served at a port that a network opened.
use Rattle.std.proofs.Common.{◌≡◌, List, ℕ, [], ◌++◌, refl, sym, ap, subst, inl, inr}
use Rattle.std.specs.Prelude.{IsErrAnd, Option, Result, Ok, Err}
use Rattle.std.specs.declared.net.socket_addr.SocketAddr.{SocketAddr}
use Rattle.mon_agent.specs.declared.agent.Agent.{Agent}
use Rattle.mon_serving.specs.AtPort.{AtPort}
use Rattle.mon_serving.specs.Network.{Ports, ports_by}
use Rattle.mon_serving.specs.Served.{Standing, stands}
use Rattle.mon_app.specs.declared.fault.AppFault.{AppFault}
use Rattle.mon_commands.specs.Serving.{IsDeafFor, IsServedAt, IsServing, SimAnswers, port_lines}
use Rattle.mon_commands.proofs.Servings.{Meanwhile}
use Rattle.mon_console.specs.declared.failure.Failure.{Failure}
use Rattle.mon_host.proofs.Promised.{goes_on, stays}
use Rattle.mon_host.specs.AtHost.{AtHost}
use Rattle.mon_host.specs.Log.{GoesOnBy}
use Rattle.mon_mib.specs.Sim.{Sim}
use Rattle.mon_udp.specs.declared.addr.Addr.{Addr}

-- no port could be opened
pub deaf : (ports : Ports) (listen : Addr) (count : ℕ) (agent : Agent Sim) (r : Result (Unit {0}) Failure) (failure : Failure) (log : Option (List AtHost))
    → IsErrAnd r (λ f. f ≡ failure) → IsDeafFor ports.Deaf listen failure → GoesOnBy (λ log. IsServedAt ports listen count agent log r) log log
deaf ports listen count agent (Ok value) failure log is not = absurd is
deaf ports listen count agent (Err f) failure log is not =
    record { more = []; holds = inr (refl, subst (IsDeafFor ports.Deaf listen) (sym is) not); on = stays log }

-- a port was opened and its line said, and then the agent was served
pub heard : {P : Type 0} (Opened : Addr → P → SocketAddr → Type 0) (Failed : Addr → AppFault → Type 0) (told : P → Option (List AtPort)) (failures : P → ℕ)
    (listen : Addr) (at : SocketAddr) (count : ℕ) (agent : Agent Sim) (after : Standing Sim) (r : Result (Unit {0}) Failure) (port_0 port_1 : P)
    (log_0 log_1 log_2 : Option (List AtHost)) → Opened listen port_0 at → GoesOnBy (λ log. log ≡ port_lines at) log_0 log_1
    → Meanwhile (λ at_port log. IsServing (SimAnswers agent) count (stands agent) after at_port log r) log_1 log_2 (told port_0) (told port_1) (failures port_0) (failures port_1)
    → GoesOnBy (λ log. IsServedAt (ports_by Opened Failed told failures) listen count agent log r) log_0 log_2
heard Opened Failed told failures listen at count agent after r port_0 port_1 log_0 log_1 log_2 opened said served = record {
  more = said.more ++ served.holds.more;
  holds = inl (record {
    at = at;
    rest = served.holds.more;
    served = record {
      before = port_0;
      opened = opened;
      after = port_1;
      happened = record { more = served.more; holds = (after, served.holds.holds); told = served.told; failures = served.failures };
    };
    log_is = ap (λ (l : List AtHost). l ++ served.holds.more) said.holds;
  });
  on = goes_on said.more served.holds.more log_0 log_1 log_2 said.on served.holds.on;
}
