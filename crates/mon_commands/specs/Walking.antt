-- What `walk` does.
use Rattle.std.specs.Prelude.{◌≡◌, ◌⊎◌, ◌<◌, ◌≤◌, ℕ, pos, List, [], ◌∷◌, IsErrAnd, Result, Ok, Err}
use Rattle.std.specs.Prelude.{codes}
use Rattle.mon_client.specs.Network.{Agents}
use Rattle.mon_app.specs.AppFault.{IsUnopened}
use Rattle.mon_client.specs.Question.{QuestionParts}
use Rattle.mon_client.specs.Walk.{IsWalk, asking_by}
use Rattle.mon_client.specs.declared.fault.WalkFault.{WalkFault}
use Rattle.mon_client.specs.declared.fault.WalkFault.TheVariants as faults
use Rattle.mon_client.specs.declared.walking.Stride.{Stride}
use Rattle.mon_client.specs.declared.walking.Stride.TheVariants.{Bulk, Next}
use Rattle.mon_cli.specs.declared.meaning.WalkArgs.{WalkArgs}
use Rattle.mon_commands.specs.Client.{shown_if}
use Rattle.mon_commands.specs.Query.{IsQuery}
use Rattle.mon_commands.specs.declared.query.Query.{Query}
use Rattle.mon_console.specs.Agents.{IsUnanswered}
use Rattle.mon_console.specs.Failure.{IsOfStream}
use Rattle.mon_console.specs.declared.agents.AgentAt.{AgentAt}
use Rattle.mon_console.specs.Files.{IsUndone}
use Rattle.mon_console.specs.declared.failure.Failure.{Failure}
use Rattle.mon_faults.specs.declared.fault.Fault.TheVariants.{App}
use Rattle.mon_host.specs.AtHost.{AtHost}
use Rattle.mon_host.specs.Reason.{why}
use Rattle.mon_host.specs.Then.{Then}
use Rattle.mon_udp.specs.declared.addr.Addr.{Addr}

-- By which request a walk asks for this many variables at once: by GetNext for none, and for more
-- than a GetBulk can ask for.
abbrev pub IsStride : ℕ → Stride → Type 0
IsStride bulk Next = (bulk ≡ 0) ⊎ (2147483648 ≤ bulk)
IsStride bulk (Bulk most) = (most ≡ pos bulk) × (1 ≤ bulk) × (bulk < 2147483648)

-- what a walk asks for by its turn with this number: what comes after a name
abbrev pub next_question : Stride → List ℕ → ℕ → List ℕ → QuestionParts
next_question stride community turn name = record {
  asking = asking_by stride;
  request_id = pos turn;
  community = community;
  names = name ∷ [];
}

-- why a walk has no wire to the agent at an address
abbrev pub IsWalkWithout : Agents → Addr → WalkFault → Type 0
IsWalkWithout agents at (faults.App fault) = agents.Unreached at fault × IsUnopened fault
IsWalkWithout agents at (faults.Output reason) = ⊥

-- What a walk prints from a start on: a wire was opened to the agent at an address, and what
-- happened there explains it; or no wire could be opened.
abbrev pub IsWalkAt : Agents → Addr → (List ℕ → List ℕ) → Stride → List ℕ → List ℕ → List AtHost
    → Result Unit WalkFault → Type 0
IsWalkAt agents at show stride community start log result =
    agents.Reached at (λ at_wire. IsWalk show (next_question stride community) start at_wire log
    result)
    ⊎ ((log ≡ []) × IsErrAnd result (IsWalkWithout agents at))

-- the failure of a walk through an agent: the agent's, or that of standard output
abbrev pub IsWalkFailure : List ℕ → WalkFault → Failure → Type 0
IsWalkFailure agent (faults.App fault) failure = (failure.fault ≡ App fault)
    × IsUnanswered agent fault failure
IsWalkFailure agent (faults.Output reason) failure =
    IsOfStream (codes "standard output") (why reason) failure

-- what a walk through an agent prints and comes to, where identifiers are shown so
abbrev pub IsShown : Agents → (List ℕ → List ℕ) → AgentAt → Stride → List ℕ → List ℕ → List AtHost
    → Result Unit Failure → Type 0
IsShown agents show agent stride community start log (Ok done) =
    IsWalkAt agents agent.address show stride community start log (Ok done)
IsShown agents show agent stride community start log (Err failure) = (fault : WalkFault)
    × IsWalkFailure agent.word.now fault failure
    × IsWalkAt agents agent.address show stride community start log
    (let r : Result Unit WalkFault = Err fault in r)

-- What a walk of a query prints and comes to, with identifiers shown as it asks, for which memory
-- may run out. A walk is from one name: of any other number of them nothing is done.
abbrev pub IsWalkOf : Agents → Query → Stride → List (List ℕ) → List AtHost → Result Unit Failure
    → Type 0
IsWalkOf agents query stride (start ∷ []) log result = IsUndone log result
    ⊎ IsShown agents (shown_if query.prints_names query.known) query.agent stride
    query.community.now start log result
IsWalkOf agents query stride names log result = (log ≡ []) × (result ≡ Ok tt)

-- a walk by the request that its arguments ask for
abbrev pub IsWalkBy : Agents → ℕ → Query → List AtHost → Result Unit Failure → Type 0
IsWalkBy agents bulk query log result = (stride : Stride) × IsStride bulk stride
    × IsWalkOf agents query stride query.asked.items log result

-- The command `walk`: what the arguments ask is read, and then each variable is printed as soon as
-- it is answered. If the walk ended well and printed none, it is said that nothing is below its
-- name.
abbrev pub IsWalking : Agents → WalkArgs → List AtHost → Result Unit Failure → Type 0
IsWalking agents words = Then (IsQuery words.request) (IsWalkBy agents words.bulk)
