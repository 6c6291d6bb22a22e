-- What is asked of a column of interfaces, turn by turn, and what the answers result in.
use Rattle.std.specs.Prelude.{◌≡◌, ◌⊎◌, ◌<◌, ◌≤◌, ℕ, zero, suc, ◌+◌, pos, List, [], ◌∷◌, ◌++◌, Bool}
use Rattle.std.specs.Prelude.{true, false, Result, Ok, Err, codes, decimal}
use Rattle.mon_client.specs.Walk.{Exceeds, IsPast, IsUnderStart}
use Rattle.mon_app.specs.declared.fault.AppFault.TheVariants.{NotIncreasing, Timeout}
use Rattle.mon_client.specs.declared.question.Asking.{Asking}
use Rattle.mon_client.specs.declared.question.Asking.TheVariants.{GetBulk}
use Rattle.mon_console.specs.Failure.{IsOf, IsSaid}
use Rattle.mon_console.specs.declared.failure.Failure.{Failure}
use Rattle.mon_faults.specs.declared.fault.Fault.TheVariants.{App}
use Rattle.mon_host.specs.Then.{Quietly, Then}
use Rattle.mon_oid.specs.Oid.{dotted}
use Rattle.mon_pdu.specs.declared.message.Binding.{Binding}
use Rattle.mon_survey.specs.Answers.{taken}
use Rattle.mon_survey.specs.Column.{column_name}
use Rattle.mon_survey.specs.declared.answers.Cell.{Cell}
use Rattle.mon_survey.specs.declared.column.Column.{Column}
use Rattle.mon_survey.specs.declared.fault.SurveyFault.{SurveyFault}
use Rattle.mon_survey.specs.declared.fault.SurveyFault.TheVariants.{OutOfMemory}
use Rattle.mon_settings_commands.specs.Exchange.{Exchange, IsQuestion}
use Rattle.mon_settings_commands.specs.Source.{IsOfSurvey, OrMemory}
use Rattle.mon_settings_commands.specs.declared.asking.Place.{Place}

-- where a walk is in its column, and the cells that were taken so far, of this column and those
-- before
pub record Stand : Type 0 where
  pub place : Place
  pub cells : List Cell

-- a walk that is at this place, with these cells
abbrev pub stand : Place → List Cell → Stand
stand place cells = record { place = place; cells = cells }

-- a walk goes on from here, or it is over and these are the cells
pub data Turned : Type 0 where
  On : Stand → Turned
  Over : List Cell → Turned

-- a call that says whether the walk goes on, after which it is here
abbrev pub turned : Stand → Result Bool Failure → Result Turned Failure
turned s (Ok true) = Ok (On s)
turned s (Ok false) = Ok (Over s.cells)
turned s (Err failure) = Err failure

-- The variable is taken: its name is the last one, and its value is a cell after the others if the
-- name is that of a cell.
pub record IsTaken (before : Stand) (b : Binding) (after : Stand) : Type 0 where
  pub under : IsUnderStart before.place.start b
  pub exceeds : Exceeds before.place.last b
  pub few : before.place.taken < 65536
  pub start : after.place.start ≡ before.place.start
  pub last : after.place.last ≡ b.name
  pub count : after.place.taken ≡ before.place.taken + 1
  pub cells : taken before.cells b.name b.value ≡ Ok after.cells

-- the line of a column that has no end
abbrev pub unending_line : List ℕ → List ℕ → List ℕ
unending_line agent start = agent ++ codes ": no end of " ++ dotted start ++ codes " after "
    ++ decimal 65536 ++ codes " variables"

-- a column has no end, as the failure says
abbrev pub IsUnending : List ℕ → List ℕ → Failure → Type 0
IsUnending agent start = IsSaid (App Timeout) (unending_line agent start)

-- Why a variable under the start is not taken: its name does not exceed the last one, there are too
-- many, or it is no cell that may follow.
abbrev pub IsNotTaken : List ℕ → Stand → Binding → Failure → Type 0
IsNotTaken agent s b failure = (¬ (Exceeds s.place.last b) × IsOf (App NotIncreasing) failure)
    ⊎ ((Exceeds s.place.last b × (65536 ≤ s.place.taken) × IsUnending agent s.place.start failure)
    ⊎ ((fault : SurveyFault) × Exceeds s.place.last b × (s.place.taken < 65536)
    × ((fault ≡ OutOfMemory) ⊎ (taken s.cells b.name b.value ≡ Err fault))
    × IsOfSurvey fault failure))

-- The result of a variable: it is taken, or it is past the column; or why it is not taken.
abbrev pub IsPut : List ℕ → Stand → Binding → Result Turned Failure → Type 0
IsPut agent s b (Ok (On next)) = IsTaken s b next
IsPut agent s b (Ok (Over cells)) = IsPast s.place.start b × (cells ≡ s.cells)
IsPut agent s b (Err failure) = IsUnderStart s.place.start b × IsNotTaken agent s b failure

-- the walk does not go on
abbrev pub IsLast : Result Turned Failure → Type 0
IsLast (Ok (On next)) = ⊥
IsLast (Ok (Over cells)) = Unit {0}
IsLast (Err failure) = Unit {0}

-- The result of variables, in their order: each is taken, up to one that ends the walk.
abbrev pub ArePut : List ℕ → Stand → List Binding → Result Turned Failure → Type 0
ArePut agent s [] result = result ≡ Ok (On s)
ArePut agent s (b ∷ bs) result = (IsLast result × IsPut agent s b result)
    ⊎ ((next : Stand) × IsTaken s b next × ArePut agent next bs result)

-- a failure whose fault is that names do not increase
abbrev pub IsNotIncreasing : Result Turned Failure → Type 0
IsNotIncreasing (Ok next) = ⊥
IsNotIncreasing (Err failure) = IsOf (App NotIncreasing) failure

-- the result of a reply: that of its variables; a reply without a variable does not increase
abbrev pub IsReplyPut : List ℕ → Stand → List Binding → Result Turned Failure → Type 0
IsReplyPut agent s [] result = IsNotIncreasing result
IsReplyPut agent s (b ∷ bs) result = ArePut agent s (b ∷ bs) result

-- a GetBulk of 32 repetitions
abbrev pub bulk : Asking
bulk = GetBulk (record { non_repeaters = pos 0; max_repetitions = pos 32 })

-- A turn: the agent is asked by a GetBulk for what comes after the last name, and its answer is
-- taken.
abbrev pub IsTurn : List ℕ → Stand → List Exchange → Result Turned Failure → Type 0
IsTurn agent s = Then (IsQuestion agent bulk (s.place.last ∷ []))
    (λ bindings. Quietly (IsReplyPut agent s bindings.items))

-- after this many turns, by which the walk went on, it is here
abbrev pub HasTurned : List ℕ → Stand → ℕ → List Exchange → Stand → Type 0
HasTurned agent first zero log now = (log ≡ []) × (now ≡ first)
HasTurned agent first (suc n) log now = (earlier : List Exchange) × (others : List Exchange)
    × (before : Stand)
    × HasTurned agent first n earlier before × IsTurn agent before others (Ok (On now))
    × (log ≡ earlier ++ others)

-- a walk begins under the name of its column
abbrev pub place_of : Column → Place
place_of column = record { start = column_name column; last = column_name column; taken = 0 }

-- a walk's result as that of its last turn
abbrev pub last_turn : Result (List Cell) Failure → Result Turned Failure
last_turn (Ok cells) = Ok (Over cells)
last_turn (Err failure) = Err failure

-- a call that fills the list of cells, which are these after it
abbrev pub with_cells : List Cell → Result Unit Failure → Result (List Cell) Failure
with_cells cells (Ok done) = Ok cells
with_cells cells (Err failure) = Err failure

-- a column has no end, as a result says
abbrev pub HasNoEnd : List ℕ → List ℕ → Result (List Cell) Failure → Type 0
HasNoEnd agent start (Ok cells) = ⊥
HasNoEnd agent start (Err failure) = IsUnending agent start failure

-- a whole walk: turns by which it went on, and then one that ends it; or 65536 turns and no end
pub record IsColumnWalk (agent : List ℕ) (column : Column) (cells : List Cell) (log : List Exchange)
    (result : Result (List Cell) Failure) : Type 0 where
  pub turns : ℕ
  pub earlier : List Exchange
  pub now : Stand
  pub walked : HasTurned agent (stand (place_of column) cells) turns earlier now
  pub others : List Exchange
  pub log_is : log ≡ earlier ++ others
  pub ended : ((turns < 65536) × IsTurn agent now others (last_turn result))
      ⊎ ((turns ≡ 65536) × (others ≡ []) × HasNoEnd agent (column_name column) result)

-- a walk through a column, if memory is left for its name
abbrev pub IsWalk : List ℕ → Column → List Cell → List Exchange → Result (List Cell) Failure
    → Type 0
IsWalk agent column cells = OrMemory (IsColumnWalk agent column cells)
