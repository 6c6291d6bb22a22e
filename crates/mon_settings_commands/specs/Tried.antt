-- Polls of settings, tried before the settings are printed or written.
use Rattle.std.specs.Prelude.{◌≡◌, ◌⊎◌, ◌==◌, ℕ, ℤ, pos, negsuc, Bool, false, List, [], ◌∷◌, ◌++◌}
use Rattle.std.specs.Prelude.{Result, Ok, Err, codes, decimal, length, if◌then◌else◌}
use Rattle.std.specs.Fmt.{signed_decimal}
use Rattle.mon_client.specs.AtWire.{AtWire}
use Rattle.mon_client.specs.Network.{Agents}
use Rattle.mon_app.specs.declared.fault.AppFault.{AppFault}
use Rattle.mon_app.specs.declared.fault.AppFault.TheVariants.{AgentStatus, Timeout}
use Rattle.mon_client.specs.declared.question.Asking.TheVariants.{Get}
use Rattle.mon_console.specs.Agents.{IsUnanswered, status_word}
use Rattle.mon_console.specs.Failure.{IsSaid}
use Rattle.mon_console.specs.declared.failure.Failure.{Failure}
use Rattle.mon_faults.specs.declared.fault.Fault.{Fault}
use Rattle.mon_faults.specs.declared.fault.Fault.TheVariants.{App}
use Rattle.mon_host.specs.Then.{Quietly, Then}
use Rattle.mon_oid.specs.Oid.{dotted}
use Rattle.mon_pdu.specs.declared.message.Binding.{Binding}
use Rattle.mon_poller.specs.Target.{poll_names}
use Rattle.mon_poller.specs.declared.target.Object.{Object}
use Rattle.mon_poller.specs.declared.target.Target.{Target}
use Rattle.mon_settings_commands.specs.Exchange.{AreExplained, Exchange}
use Rattle.mon_settings_commands.specs.Notes.{form_of}
use Rattle.mon_settings_commands.specs.Source.{OrMemory}
use Rattle.mon_settings_commands.specs.Surveyed.{IsUnwired}
use Rattle.mon_settings_commands.specs.declared.settings.AgentOptions.{AgentOptions}

-- the name of the first of some objects
abbrev pub first_name : List Object → List ℕ
first_name [] = []
first_name (o ∷ os) = o.name

-- a poll of an agent: of how many objects, and the first one
abbrev pub poll_text : List ℕ → Target → List ℕ
poll_text agent t = agent ++ (codes ": a poll of " ++ (decimal (length t.objects)
    ++ (form_of (length t.objects) (codes " object") (codes " objects") ++ (codes " from "
    ++ (dotted (first_name t.objects) ++ codes " on")))))

-- what may be done if an agent answers with an error status; 1 is tooBig
abbrev pub advice_for : ℤ → List ℕ
advice_for (pos n) = if n == 1 then codes "let the agent send longer messages"
    else codes "choose other counters by --match, --up or --only"
advice_for (negsuc n) = codes "choose other counters by --match, --up or --only"

-- the line of a poll that was answered with an error status
abbrev pub refused_line : List ℕ → Target → ℤ → List ℕ
refused_line agent t status = poll_text agent t ++ (codes " was answered " ++ (status_word status
    ++ (codes " (" ++ (signed_decimal status ++ (codes "): " ++ advice_for status)))))

-- the line of a poll that was not answered
abbrev pub silent_line : List ℕ → Target → List ℕ
silent_line agent t = poll_text agent t
    ++ codes " was not answered: try again, or choose fewer counters by --match, --up or --only"

-- the failure of a poll that was not answered, or with an error status: its line names the poll
abbrev pub IsUnpolled : List ℕ → Target → AppFault → Failure → Type 0
IsUnpolled agent t (AgentStatus status index) = IsSaid (App (AgentStatus status index))
    (refused_line agent t status)
IsUnpolled agent t Timeout = IsSaid (App Timeout) (silent_line agent t)
IsUnpolled agent t fault = IsUnanswered agent fault

-- the result of an answer to a poll: success for any answer without an error status
abbrev pub IsTriedBy : List ℕ → Target → Result (List Binding) AppFault → Result Unit Failure
    → Type 0
IsTriedBy agent t (Ok bindings) result = result ≡ Ok tt
IsTriedBy agent t (Err fault) (Ok done) = ⊥
IsTriedBy agent t (Err fault) (Err failure) = (failure.fault ≡ App fault)
    × IsUnpolled agent t fault failure

-- one Get for exactly the names that a poll of the target asks for, and the result of its answer
abbrev pub IsPolled : List ℕ → Target → List Exchange → Result Unit Failure → Type 0
IsPolled agent t log result = (answer : Result (List Binding) AppFault)
    × (log ≡ (record { asking = Get; names = poll_names t; answer = answer }) ∷ [])
    × IsTriedBy agent t answer result

-- a poll is tried, if memory is left for its names
abbrev pub IsTried : List ℕ → Target → List Exchange → Result Unit Failure → Type 0
IsTried agent t = OrMemory (IsPolled agent t)

-- a poll of each target is tried, in order, up to one that is not answered
abbrev pub AreTried : List ℕ → List Target → List Exchange → Result Unit Failure → Type 0
AreTried agent [] = Quietly (λ result. result ≡ Ok tt)
AreTried agent (t ∷ ts) = Then (IsTried agent t) (λ done. AreTried agent ts)

-- what happened at a wire explains a trial; the first request-id is 1
pub record IsTrialBy (asked : AgentOptions) (targets : List Target) (result : Result Unit Failure)
    (at_wire : List AtWire) : Type 0 where
  pub exchanges : List Exchange
  pub tried : AreTried asked.agent.word.now targets exchanges result
  pub last : ℕ
  pub explained : AreExplained asked.community.now 0 exchanges last at_wire

-- A trial: a wire was opened to the agent, and what happened there explains that it answered a poll
-- of each target without an error status, or why not; or no wire could be opened.
abbrev pub IsTrial : Agents → AgentOptions → List Target → Result Unit Failure → Type 0
IsTrial agents asked targets (Ok done) = agents.Reached asked.agent.address
    (IsTrialBy asked targets (Ok done))
IsTrial agents asked targets (Err failure) = IsUnwired agents asked.agent failure
    ⊎ agents.Reached asked.agent.address (IsTrialBy asked targets (Err failure))

-- whether a fault is that an agent answered tooBig, error status 1
abbrev pub is_too_big : Fault → Bool
is_too_big (App (AgentStatus (pos n) index)) = n == 1
is_too_big _ = false
