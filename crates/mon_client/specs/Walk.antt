-- What a walk asks and prints, request by request.
use Rattle.std.specs.Prelude.{◌≡◌, ◌≢◌, ◌<◌, ℕ, zero, suc, pos, Bool, false, true, List, [], ◌∷◌}
use Rattle.std.specs.Prelude.{◌++◌, codes, IfOk, Option, Some, None, Result, Ok, Err, ◌⊎◌}
use Rattle.std.specs.Ordering.{nat_cmp}
use Rattle.std.specs.Cmp.Lexicographic.{slice_cmp}
use Rattle.std.specs.declared.cmp.Ordering.TheVariants.{Less}
use Rattle.mon_host.specs.AtHost.{AtHost, Noted, Printed, Unprinted}
use Rattle.mon_host.specs.declared.level.Level.TheVariants as level
use Rattle.mon_host.specs.Reason.{why}
use Rattle.mon_host.specs.Then.{Then}
use Rattle.mon_oid.specs.Oid.{IsPrefix}
use Rattle.mon_ber.specs.declared.value.Value.TheVariants.{EndOfMibView}
use Rattle.mon_pdu.specs.declared.message.Binding.{Binding}
use Rattle.mon_app.specs.declared.fault.AppFault.{AppFault}
use Rattle.mon_app.specs.declared.fault.AppFault.TheVariants.{OutOfMemory, NotIncreasing}
use Rattle.mon_client.specs.declared.fault.WalkFault.{WalkFault}
use Rattle.mon_client.specs.declared.fault.WalkFault.TheVariants.{App, Output}
use Rattle.mon_client.specs.declared.question.Asking.{Asking}
use Rattle.mon_client.specs.declared.question.Asking.TheVariants.{GetNext, GetBulk}
use Rattle.mon_client.specs.declared.walking.WalkStep.{WalkStep}
use Rattle.mon_client.specs.declared.walking.WalkStep.TheVariants.{On, Past, Back}
use Rattle.mon_client.specs.declared.walking.Stride.{Stride}
use Rattle.mon_client.specs.declared.walking.Stride.TheVariants.{Next, Bulk}
use Rattle.mon_client.specs.declared.walking.Turned.{Turned}
use Rattle.mon_client.specs.declared.walking.Turned.TheVariants as turned
use Rattle.mon_client.specs.declared.walking.WalkPlan.{WalkPlan}
use Rattle.mon_client.specs.AtWire.{AtWire, socket_failures}
use Rattle.mon_client.specs.Printed.{IsQuestionAnswered, binding_line}
use Rattle.mon_client.specs.Question.{QuestionParts}

-- the request of a walk (RFC 3416 sections 4.2.2 and 4.2.3)
abbrev pub asking_by : Stride → Asking
asking_by Next = GetNext
asking_by (Bulk n) = GetBulk (record { non_repeaters = pos 0; max_repetitions = n })

-- the question of a walk for what comes after a name
abbrev pub question_after : WalkPlan → ℕ → List ℕ → QuestionParts
question_after w request_id name = record {
  asking = asking_by w.stride;
  request_id = pos
      request_id;
  community = w.community.now;
  names = name ∷ [];
}

-- the walk is over: the agent has no further variable, or this one is not under the start
abbrev pub IsPast : List ℕ → Binding → Type 0
IsPast start b = (b.value ≡ EndOfMibView) ⊎ ¬ (IsPrefix start b.name)

-- a variable under the start
abbrev pub IsUnderStart : List ℕ → Binding → Type 0
IsUnderStart start b = (b.value ≢ EndOfMibView) × IsPrefix start b.name

-- the name exceeds the last one
abbrev pub Exceeds : List ℕ → Binding → Type 0
Exceeds last b = slice_cmp nat_cmp last b.name ≡ Less

-- what a walk does about a variable binding that answers
abbrev pub IsWalkStep : List ℕ → List ℕ → Binding → WalkStep → Type 0
IsWalkStep start last b On = IsUnderStart start b × Exceeds last b
IsWalkStep start last b Past = IsPast start b
IsWalkStep start last b Back = IsUnderStart start b × ¬ (Exceeds last b)

-- whether something was done, as a line that is printed
abbrev pub has_some : List AtHost → Bool
has_some [] = false
has_some (x ∷ xs) = true

-- the last name of a turn after which the walk goes on; None if it is at its end
abbrev pub name_in : Result Turned WalkFault → Result (Option (List ℕ)) WalkFault
name_in (Ok (turned.On name)) = Ok (Some name)
name_in (Ok (turned.Over printed)) = Ok None
name_in (Err fault) = Err fault

-- a turn that ends a walk well says whether it printed a line
abbrev pub SaysWhether : List AtHost → Result Turned WalkFault → Type 0
SaysWhether said (Ok (turned.On name)) = Unit {0}
SaysWhether said (Ok (turned.Over printed)) = printed ≡ has_some said
SaysWhether said (Err fault) = Unit {0}

-- The line of a variable was printed, or that failed; or nothing was done, where memory ran out for
-- the line.
abbrev pub IsSaid : (List ℕ → List ℕ) → Binding → List AtHost → Result Unit WalkFault → Type 0
IsSaid show b said (Ok done) = said ≡ Printed (binding_line show b) ∷ []
IsSaid show b said (Err (App fault)) = (said ≡ []) × (fault ≡ OutOfMemory)
IsSaid show b said (Err (Output reason)) = said ≡ Unprinted (binding_line show b) (why reason) ∷ []

-- The line of a variable failed so.
abbrev pub IsUnsaid : (List ℕ → List ℕ) → Binding → List AtHost → WalkFault → Type 0
IsUnsaid show b said fault = let line : Result Unit WalkFault = Err fault in IsSaid show b said line

-- The walk ends at this variable binding: well where it is past the walk; else its name does not
-- increase, or its line was not printed.
abbrev pub EndsAt : (List ℕ → List ℕ) → List ℕ → List ℕ → Binding → List AtHost
    → Result (Option (List ℕ)) WalkFault → Type 0
EndsAt show start last b said (Ok None) = (said ≡ []) × IsWalkStep start last b Past
EndsAt show start last b said (Ok (Some name)) = ⊥
EndsAt show start last b said (Err fault) =
    ((said ≡ []) × IsWalkStep start last b Back × (fault ≡ App NotIncreasing))
    ⊎ (IsWalkStep start last b On × IsUnsaid show b said fault)

-- What is printed of variable bindings that answer, in their order: a line for each up to the one
-- at which the walk ends. Where it goes on after all of them, the last one's name is given, if
-- memory is left for it.
abbrev pub IsAlong : (List ℕ → List ℕ) → List ℕ → List ℕ → List Binding → List AtHost
    → Result (Option (List ℕ)) WalkFault → Type 0
IsAlong show start last [] said result = (said ≡ []) × ((result ≡ Ok (Some last))
    ⊎ (result ≡ Err (App OutOfMemory)))
IsAlong show start last (b ∷ bs) said result = EndsAt show start last b said result
    ⊎ (IsWalkStep start last b On × ((rest : List AtHost) × (said
    ≡ Printed (binding_line show b) ∷ rest) × IsAlong show start b.name bs rest result))

-- what is printed of an answer; one without a variable does not increase either
abbrev pub EndsInLines : (List ℕ → List ℕ) → List ℕ → List ℕ → List Binding → List AtHost
    → Result (Option (List ℕ)) WalkFault → Type 0
EndsInLines show start last [] said result = (said ≡ []) × (result ≡ Err (App NotIncreasing))
EndsInLines show start last (b ∷ bs) said result = IsAlong show start last (b ∷ bs) said result

-- the answer to a question, if there is one, is printed; its fault is the turn's
abbrev pub Follows : (List ℕ → List ℕ) → List ℕ → List ℕ → Result (List Binding) AppFault
    → List AtHost → Result (Option (List ℕ)) WalkFault → Type 0
Follows show start last (Ok found) said result = EndsInLines show start last found said result
Follows show start last (Err fault) said result = (said ≡ []) × (result ≡ Err (App fault))

-- A turn of a walk: the question was answered so, this happened at the wire, and this was printed.
-- If the walk goes on, the turn returns the last name; if it ends, None.
pub record IsTurn (show : List ℕ → List ℕ) (q : QuestionParts) (start last : List ℕ)
    (said : List AtHost)
    (log : List AtWire)
    (result : Result (Option (List ℕ)) WalkFault) : Type 0 where
  pub answer : Result (List Binding) AppFault
  pub answered : IsQuestionAnswered q log answer
  pub follows : Follows show start last answer said result

-- After this many turns, by which the walk went on: what happened at the wire, what was printed,
-- and the last name. The first question is for what comes after the start, and each other one for
-- what comes after the last name that was answered.
abbrev pub HasWalked : (List ℕ → List ℕ) → (ℕ → List ℕ → QuestionParts) → List ℕ → ℕ → List AtWire
    → List AtHost → List ℕ → Type 0
HasWalked show after start zero log said last = (log ≡ []) × (said ≡ []) × (last ≡ start)
HasWalked show after start (suc n) log said last =
    (earlier : List AtWire) × (others : List AtWire) × (lines : List AtHost) × (more : List AtHost)
    × (name : List ℕ) × HasWalked show after start n earlier lines name
    × IsTurn show (after n name) start name more others (Ok (Some last)) × (log ≡ earlier ++ others)
    × (said ≡ lines ++ more)

-- a walk's answer as that of its last turn
abbrev pub last_answer : {A : Type 0} → Result A WalkFault → Result (Option (List ℕ)) WalkFault
last_answer (Ok done) = Ok None
last_answer (Err fault) = Err fault

-- The turns of a walk: those by which it went on, and then one that ends it; or 65536 of them. It
-- may run out of memory before its first turn. If it ends well it says whether a line was printed.
pub record AreTurns (show : List ℕ → List ℕ) (after : ℕ → List ℕ → QuestionParts) (start : List ℕ)
    (log : List AtWire)
    (said : List AtHost) (result : Result Bool WalkFault) : Type 0 where
  pub turns : ℕ
  pub earlier : List AtWire
  pub lines : List AtHost
  pub last : List ℕ
  pub walked : HasWalked show after start turns earlier lines last
  pub others : List AtWire
  pub more : List AtHost
  pub log_is : log ≡ earlier ++ others
  pub said_is : said ≡ lines ++ more
  pub ended : ((turns < 65536) × IsTurn show (after turns last) start last more others
      (last_answer result))
      ⊎ (((turns ≡ 65536) × (others ≡ []) × (more ≡ []) × (result ≡ Ok true))
      ⊎ ((log ≡ []) × (said ≡ []) × (result ≡ Err (App OutOfMemory))))
  pub printed : IfOk result (λ printed. printed ≡ has_some said)

-- the line that says that nothing is below a name
abbrev pub empty_line : List ℕ → List ℕ
empty_line name = codes "snmpmon: nothing is below " ++ name ++ codes "\n"

-- it is said that nothing is below a name, unless memory ran out for the line
abbrev pub IsEmptyNoted : List ℕ → List AtHost → Result Unit WalkFault → Type 0
IsEmptyNoted name said (Ok done) = said ≡ Noted level.Info (empty_line name) ∷ []
IsEmptyNoted name said (Err fault) = (said ≡ []) × (fault ≡ App OutOfMemory)

-- what is said after a walk from a name that ended well: nothing if it printed a line
abbrev pub IsNotedAfter : List ℕ → Bool → List AtHost → Result Unit WalkFault → Type 0
IsNotedAfter name true said result = (said ≡ []) × (result ≡ Ok tt)
IsNotedAfter name false said result = IsEmptyNoted name said result

-- A whole walk: its turns; if they ended well and printed no line, it is said that nothing is below
-- its start.
abbrev pub IsWalk : (List ℕ → List ℕ) → (ℕ → List ℕ → QuestionParts) → List ℕ → List AtWire
    → List AtHost
    → Result Unit WalkFault → Type 0
IsWalk show after start log = Then (AreTurns show after start log) (IsNotedAfter (show start))

-- a fault of a walk that is of no socket: a name does not increase, memory ran out, or a line could
-- not be printed
abbrev pub IsOfLines : WalkFault → Type 0
IsOfLines (App NotIncreasing) = Unit {0}
IsOfLines (App OutOfMemory) = Unit {0}
IsOfLines (App other) = ⊥
IsOfLines (Output reason) = Unit {0}

-- a wire's count of failures after a walk, which ends with a socket's fault exactly where the
-- socket failed
abbrev pub walk_failures : {A : Type 0} → Result A WalkFault → ℕ → ℕ
walk_failures (Ok given) count = count
walk_failures (Err (App fault)) count = let asked : Result Unit AppFault = Err fault
    in socket_failures asked count
walk_failures (Err (Output reason)) count = count
