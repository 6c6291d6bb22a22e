-- What `agent` does.
use Rattle.std.specs.Prelude.{◌≡◌, ◌⊎◌, ◌<◌, ◌++◌, ℕ, zero, suc, List, [], ◌∷◌, IsErrAnd, Some}
use Rattle.std.specs.Prelude.{Result, Ok, Err, codes}
use Rattle.std.specs.Net.Text.{socket_text}
use Rattle.std.specs.declared.net.socket_addr.SocketAddr.{SocketAddr}
use Rattle.mon_agent.specs.State.{policy_of, settings_of}
use Rattle.mon_agent.specs.declared.agent.Agent.{Agent}
use Rattle.mon_agent.specs.declared.reply.Reply.{Reply}
use Rattle.mon_serving.specs.AtPort.{AtPort}
use Rattle.mon_app.specs.AppFault.{IsUnopened as IsOfOpening}
use Rattle.mon_serving.specs.Network.{Ports}
use Rattle.mon_serving.specs.Served.{AnswersIt, IsEnd, IsTurn, Standing, Takes, stands}
use Rattle.mon_app.specs.declared.fault.AppFault.{AppFault}
use Rattle.mon_app.specs.declared.fault.AppFault.TheVariants as faults
use Rattle.mon_app.specs.declared.reason.SocketReason.{SocketReason}
use Rattle.mon_serving.specs.declared.serving.Served.{Served}
use Rattle.mon_serving.specs.declared.serving.Served.TheVariants.{Answered, Untaken}
use Rattle.mon_cli.specs.declared.meaning.AgentArgs.{AgentArgs}
use Rattle.mon_commands.specs.Agent.{AreAgentSettings, IsSimulated}
use Rattle.mon_console.specs.Failure.{IsMemory, IsPlain, IsUnopened, first_line}
use Rattle.mon_console.specs.declared.failure.Failure.{Failure}
use Rattle.mon_faults.specs.declared.fault.Fault.TheVariants.{App}
use Rattle.mon_host.specs.AtHost.{AtHost, Noted}
use Rattle.mon_host.specs.declared.level.Level.TheVariants as level
use Rattle.mon_host.specs.Then.{Quietly, Then}
use Rattle.mon_mib.specs.Change.{IsOf}
use Rattle.mon_mib.specs.Sim.{Sim, held_of, indexes_of}
use Rattle.mon_udp.specs.Addr.{addr_text}
use Rattle.mon_udp.specs.declared.addr.Addr.{Addr}

-- what is said of a datagram: a line if memory ran out for it
abbrev pub untaken_lines : Served → List AtHost
untaken_lines Answered = []
untaken_lines Untaken = Noted level.Warning (first_line (App faults.OutOfMemory)) ∷ []

-- a datagram came, and what is said of it
abbrev pub IsOneServed : {S : Type 0} → (S → S → List ℕ → ℕ → Reply → Type 0) → S → S
    → List AtPort → List AtHost → Type 0
IsOneServed Answers before after at_port log = (served : Served)
    × IsTurn (Takes Answers served before after) at_port × (log ≡ untaken_lines served)

-- What serving the next datagram comes to, at the port and on standard error: it came; or 16 waits
-- in a row failed, and nothing is said.
abbrev pub IsNextServed : {S : Type 0} → (S → S → List ℕ → ℕ → Reply → Type 0) → S → S
    → List AtPort → List AtHost → Result Unit AppFault → Type 0
IsNextServed Answers before after at_port log (Ok done) =
    IsOneServed Answers before after at_port log
IsNextServed Answers before after at_port log (Err (faults.SocketFault reason)) =
    (after ≡ before) × IsEnd reason at_port × (log ≡ [])
IsNextServed Answers before after at_port log (Err other) = ⊥

-- this many datagrams came, one after another
abbrev pub AreServed : {S : Type 0} → (S → S → List ℕ → ℕ → Reply → Type 0) → ℕ → S → S
    → List AtPort → List AtHost → Type 0
AreServed Answers zero before after at_port log =
    (after ≡ before) × (at_port ≡ []) × (log ≡ [])
AreServed {S = S} Answers (suc n) before after at_port log = (between : S)
    × (earlier : List AtPort) × (last : List AtPort) × (said : List AtHost) × (more : List AtHost)
    × AreServed Answers n before between earlier said
    × IsOneServed Answers between after last more
    × (at_port ≡ earlier ++ last) × (log ≡ said ++ more)

-- fewer datagrams than this came; then 16 waits in a row failed
pub record IsCutOff {S : Type 0} (Answers : S → S → List ℕ → ℕ → Reply → Type 0) (count : ℕ)
    (before after : S) (reason : SocketReason) (at_port : List AtPort) (log : List AtHost)
    : Type 0 where
  pub taken : ℕ
  pub fewer : taken < count
  pub earlier : List AtPort
  pub served : AreServed Answers taken before after earlier log
  pub last : List AtPort
  pub end : IsEnd reason last
  pub at_port_is : at_port ≡ earlier ++ last

-- Nothing was done, since there was no memory to begin.
pub record IsNotBegun {S : Type 0} (before after : S) (at_port : List AtPort) (log : List AtHost)
    (failure : Failure) : Type 0 where
  pub memory : IsMemory failure
  pub stays : after ≡ before
  pub quiet : at_port ≡ []
  pub unsaid : log ≡ []

-- What serving this many datagrams comes to, at the port and on standard error: all came; or the
-- port failed too often; or nothing was done.
abbrev pub IsServing : {S : Type 0} → (S → S → List ℕ → ℕ → Reply → Type 0) → ℕ → S → S
    → List AtPort → List AtHost → Result Unit Failure → Type 0
IsServing Answers count before after at_port log (Ok done) =
    AreServed Answers count before after at_port log
IsServing Answers count before after at_port log (Err failure) =
    IsNotBegun before after at_port log failure
    ⊎ ((reason : SocketReason) × IsPlain (App (faults.SocketFault reason)) failure
    × IsCutOff Answers count before after reason at_port log)

-- how an agent over a device in memory answers
abbrev pub SimAnswers : Agent Sim → Standing Sim → Standing Sim → List ℕ → ℕ → Reply → Type 0
SimAnswers agent = AnswersIt held_of (λ s. s.failures)
    (λ s change. ¬ (IsOf (indexes_of s.interfaces) change)) (policy_of agent) (settings_of agent)

-- what is said of where an agent listens
abbrev pub port_lines : SocketAddr → List AtHost
port_lines at = Noted level.Info (codes "snmpmon: agent at " ++ socket_text at ++ 10 ∷ []) ∷ []

-- no port could be opened at an address, which the failure says
abbrev pub IsDeafFor : (Addr → AppFault → Type 0) → Addr → Failure → Type 0
IsDeafFor Deaf listen failure = (fault : AppFault) × Deaf listen fault × IsOfOpening fault
    × IsUnopened (Some (addr_text listen)) fault failure

-- an agent is served this many datagrams, and this happens at its port meanwhile
abbrev pub IsServedBy : ℕ → Agent Sim → List AtPort → List AtHost → Result Unit Failure → Type 0
IsServedBy count agent at_port log result = (after : Standing Sim)
    × IsServing (SimAnswers agent) count (stands agent) after at_port log result

-- A port was opened for an address, one line says which it has, and an agent is served this many
-- datagrams at it.
pub record IsHeard (ports : Ports) (listen : Addr) (count : ℕ) (agent : Agent Sim)
    (log : List AtHost)
    (result : Result Unit Failure) : Type 0 where
  pub at : SocketAddr
  pub rest : List AtHost
  pub served : ports.Served listen at (λ at_port. IsServedBy count agent at_port rest result)
  pub log_is : log ≡ port_lines at ++ rest

-- an agent is served at a port that was opened; or none could be opened, and nothing is said
abbrev pub IsServedAt : Ports → Addr → ℕ → Agent Sim → List AtHost → Result Unit Failure → Type 0
IsServedAt ports listen count agent log result = IsHeard ports listen count agent log result
    ⊎ ((log ≡ []) × IsErrAnd result (IsDeafFor ports.Deaf listen))

-- The command `agent`: the settings are read, and then the agent is served at their address.
abbrev pub IsServingAgent : Ports → AgentArgs → List AtHost → Result Unit Failure → Type 0
IsServingAgent ports words = Then (AreAgentSettings words.settings.now words.boots)
    (λ told. Then (Quietly (IsSimulated told))
    (λ agent. IsServedAt ports told.listen words.count agent))
