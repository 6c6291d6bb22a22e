-- Why an agent gave no answer.
use Rattle.std.specs.Prelude.{ℕ, zero, ℤ, pos, List, ◌++◌, Some, codes, unwrap_or}
use Rattle.std.specs.Fmt.{signed_decimal}
use Rattle.mon_poller.specs.Status.{status_name}
use Rattle.mon_app.specs.declared.fault.AppFault.{AppFault}
use Rattle.mon_app.specs.declared.fault.AppFault.TheVariants.{AgentStatus, SocketFault}
use Rattle.mon_console.specs.Failure.{IsOfSocket, IsOf, IsSaid}
use Rattle.mon_console.specs.declared.failure.Failure.{Failure}
use Rattle.mon_faults.specs.declared.fault.Fault.TheVariants.{App}

-- the name of an error status, or that it has none
abbrev pub status_word : ℤ → List ℕ
status_word status = unwrap_or (status_name status) (codes "an unknown error-status")

-- an agent answered with an error status
abbrev pub answered_with : List ℕ → ℤ → List ℕ
answered_with agent status = agent ++ codes ": the agent answered " ++ status_word status
    ++ codes " (" ++ signed_decimal status ++ codes ")"

-- the line of an error status, and of the variable binding that it is about, if it is about one
abbrev pub status_line : List ℕ → ℤ → ℤ → List ℕ
status_line agent status (pos zero) = answered_with agent status
status_line agent status index = answered_with agent status ++ codes " for variable binding "
    ++ signed_decimal index

-- the failure of an agent that gave no answer which is printed
abbrev pub IsUnanswered : List ℕ → AppFault → Failure → Type 0
IsUnanswered agent (AgentStatus status index) = IsSaid (App (AgentStatus status index))
    (status_line agent status index)
IsUnanswered agent (SocketFault reason) = IsOfSocket (Some agent) reason
IsUnanswered agent fault = IsOf (App fault)
