-- What is carried.
use Rattle.std.specs.Prelude.{◌≡◌, ◌+◌, ℕ, List, Result, Ok, Err, length}
use Rattle.mon_board.specs.Board.{Board, window_of}
use Rattle.mon_board.specs.Watch.{Watch}
use Rattle.mon_carry.specs.Carried.{apart_count, carried_count, carried_window, samples_before}
use Rattle.mon_carry.specs.Fault.{IsFaultOfOld}
use Rattle.mon_carry.specs.Files.{IsFoundIn}
use Rattle.mon_carry.specs.declared.counts.Carried.{Carried}
use Rattle.mon_carry.specs.declared.fault.CarryFault.{CarryFault}
use Rattle.mon_carry.specs.declared.fault.CarryFault.TheVariants.{NoMoreIncarnations}
use Rattle.mon_console.specs.declared.failure.Failure.{Failure}
use Rattle.mon_file_commands.specs.Saved.{IsSteadyRead}
use Rattle.mon_host.specs.AtHost.{AtHost}
use Rattle.mon_host.specs.Then.{Quietly, Then}
use Rattle.mon_carry_commands.specs.Faults.{IsOfCarry}
use Rattle.mon_carry_commands.specs.declared.load.Load.{Load}

-- how much is carried from an old board to a new watch, which this board has then
abbrev pub carried_of : (old board : Board) (dropped : List (List ℕ)) → Carried
carried_of old board dropped = record {
  watched = length board.watch.instances;
  instances = carried_count old board.watch dropped;
  added = apart_count board.watch old dropped;
  gone = apart_count old.watch board dropped;
  samples = samples_before (window_of board) (length board.watch.instances);
}

-- What is carried from a file: the windows of what is found in it, and the next incarnation.
pub record IsLoadOf (old new : Watch) (dropped : List (List ℕ)) (file : List ℕ)
    (load : Load) : Type 0 where
  pub before : Board
  pub incarnation : ℕ
  pub found : IsFoundIn old file before incarnation
  pub next : load.incarnation ≡ incarnation + 1
  pub watch : load.board.watch ≡ new
  pub windows : (i : ℕ) → window_of load.board i ≡ carried_window before new dropped i
  pub carried : load.carried ≡ carried_of before load.board dropped

-- Why nothing is carried from a file: its windows are not found, or have the greatest incarnation.
abbrev pub IsFaultOfLoad : Watch → List ℕ → CarryFault → Type 0
IsFaultOfLoad old file NoMoreIncarnations = (before : Board) × IsFoundIn old file before 4294967295
IsFaultOfLoad old file fault = IsFaultOfOld old file fault

-- what is carried from a file; or why nothing is
abbrev pub IsLoad : (old new : Watch) (dropped : List (List ℕ)) (file : List ℕ)
    → Result Load Failure → Type 0
IsLoad old new dropped file (Ok load) = IsLoadOf old new dropped file load
IsLoad old new dropped file (Err failure) =
    (fault : CarryFault) × IsFaultOfLoad old file fault × IsOfCarry fault failure

-- a station's file is read, 16 times at most, and what is carried from it is found
abbrev pub IsLoaded : (path : List ℕ) (old new : Watch) (dropped : List (List ℕ)) → List AtHost
    → Result Load Failure → Type 0
IsLoaded path old new dropped =
    Then (IsSteadyRead path 15) (λ octets. Quietly (IsLoad old new dropped octets.items))
