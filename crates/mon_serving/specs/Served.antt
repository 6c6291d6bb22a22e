-- What serving a datagram makes of an agent, and what happens at its port meanwhile (RFC 3416
-- section 4.2).
use Rattle.std.specs.Prelude.{◌≡◌, ℕ, ◌<◌, List, [], ◌∷◌, ◌++◌, length, take, All, Result, Ok, Err}
use Rattle.mon_vacm.specs.Tables.{PolicyTables}
use Rattle.mon_mib.specs.declared.change.Change.{Change}
use Rattle.mon_mib.specs.declared.counters.Counters.{Counters}
use Rattle.mon_mib.specs.declared.counters.Counter.TheVariants.{InPackets}
use Rattle.mon_mib.specs.declared.settings.Settings.{Settings}
use Rattle.mon_mib.specs.Counters.{counted}
use Rattle.mon_mib.specs.Held.{Held}
use Rattle.mon_mib.specs.Known.{known_of}
use Rattle.mon_agent.specs.declared.agent.Agent.{Agent}
use Rattle.mon_agent.specs.declared.reply.Reply.{Reply}
use Rattle.mon_agent.specs.declared.reply.Reply.TheVariants.{Send, Silent}
use Rattle.mon_agent.specs.Answer.{IsAnswer, raised_by}
use Rattle.mon_agent.specs.State.{counters_of, device_of}
use Rattle.mon_app.specs.declared.fault.SocketFault.{SocketFault}
use Rattle.mon_serving.specs.declared.port.Received.{Received as AnyReceived}
use Rattle.mon_app.specs.declared.reason.SocketReason.{SocketReason}
use Rattle.mon_serving.specs.declared.serving.Served.{Served}
use Rattle.mon_serving.specs.declared.serving.Served.TheVariants.{Answered, Untaken}
use Rattle.mon_serving.specs.AtPort.{AtPort, Received, Failed, Replied, Unsent, IsReplied}

-- a wait that failed
abbrev pub IsFailure : AtPort → Type 0
IsFailure (Failed reason) = Unit {0}
IsFailure (Received octets moment) = ⊥
IsFailure (Replied octets) = ⊥
IsFailure (Unsent octets) = ⊥

-- this many waits that failed, and nothing else
abbrev pub AreFailures : ℕ → List AtPort → Type 0
AreFailures n log = All IsFailure log × (length log ≡ n)

-- 16 waits in a row failed, the last one for this reason
pub record IsEnd (reason : SocketReason) (log : List AtPort) : Type 0 where
  pub failed : List AtPort
  pub failures : AreFailures 15 failed
  pub log_is : log ≡ failed ++ Failed reason ∷ []

-- after fewer than 16 failed waits a datagram came, which is in the buffer
pub record IsNext (room : List ℕ) (received : AnyReceived) (log : List AtPort) : Type 0 where
  pub count : ℕ
  pub few : count < 16
  pub failed : List AtPort
  pub failures : AreFailures count failed
  pub log_is : log ≡ failed ++ Received (take received.len room) received.moment ∷ []

-- what waiting for a datagram comes to
abbrev pub IsAwaited : List ℕ → List AtPort → Result AnyReceived SocketFault → Type 0
IsAwaited room log (Ok received) = IsNext room received log
IsAwaited room log (Err fault) = IsEnd fault.reason log

-- An agent's counters and device.
pub record Standing (D : Type 0) : Type 0 where
  pub counts : Counters
  pub device : D

-- the counters and the device of an agent
abbrev pub stands : {D : Type 0} → Agent D → Standing D
stands agent = record { counts = counters_of agent; device = device_of agent }

-- The agent's reply to a datagram that came at a time, and what became of its counters and its
-- device, of which devices of one kind hold, fail and refuse so.
pub record AnswersIt {D : Type 0} (held : D → Held) (failed : D → ℕ) (refuses : D → Change → Type 0)
    (policy : PolicyTables) (settings : Settings)
    (before after : Standing D) (datagram : List ℕ) (moment : ℕ) (reply : Reply) : Type 0 where
  pub answer : IsAnswer held failed refuses policy (known_of settings
      (counted before.counts InPackets) (held before.device) moment) before.device
      after.device datagram reply
  pub counters : after.counts ≡ raised_by reply (counted before.counts InPackets)

-- what happens for a reply: it is sent, or could not be sent; nothing happens where the agent is
-- silent
abbrev pub IsSent : Reply → List AtPort → Type 0
IsSent (Send octets) sent = IsReplied octets.items sent
IsSent (Silent cause) sent = sent ≡ []

-- a datagram that was answered
pub record IsAnswered {S : Type 0} (Answers : S → S → List ℕ → ℕ → Reply → Type 0)
    (before after : S) (datagram : List ℕ) (moment : ℕ) (sent : List AtPort)
    : Type 0 where
  pub reply : Reply
  pub answer : Answers before after datagram moment reply
  pub sent_for : IsSent reply sent

-- what becomes of an agent, and what happens at the port, if a datagram came at a time: the agent
-- answers it; or memory runs out, the agent is as it was, and nothing is sent
abbrev pub Takes : {S : Type 0} → (S → S → List ℕ → ℕ → Reply → Type 0) → Served → S → S → List ℕ
    → ℕ → List AtPort → Type 0
Takes Answers Answered before after datagram moment sent = IsAnswered Answers before after datagram
    moment sent
Takes Answers Untaken before after datagram moment sent = (after ≡ before) × (sent ≡ [])

-- after fewer than 16 failed waits a datagram came, of which this holds with what happened then
pub record IsTurn (Taken : List ℕ → ℕ → List AtPort → Type 0) (log : List AtPort) : Type 0 where
  pub count : ℕ
  pub few : count < 16
  pub failed : List AtPort
  pub failures : AreFailures count failed
  pub datagram : List ℕ
  pub moment : ℕ
  pub sent : List AtPort
  pub taken : Taken datagram moment sent
  pub log_is : log ≡ failed ++ Received datagram moment ∷ sent

-- what serving one datagram comes to
abbrev pub IsServed : {S : Type 0} → (S → S → List ℕ → ℕ → Reply → Type 0) → S → S → List AtPort
    → Result Served SocketFault → Type 0
IsServed Answers before after log (Ok served) = IsTurn (Takes Answers served before after) log
IsServed Answers before after log (Err fault) = (after ≡ before) × IsEnd fault.reason log
