-- What a rehearsal prints.
use Rattle.std.specs.Prelude.{ℕ, zero, suc, ◌+◌, List, [], ◌∷◌, ◌++◌, ◌==◌, if◌then◌else◌, Option}
use Rattle.std.specs.Prelude.{Some, None, Result, Ok, Err, codes, decimal}
use Rattle.std.specs.List.{flat_map}
use Rattle.mon_board.specs.Board.{window_of}
use Rattle.mon_report.specs.Report.{report}
use Rattle.mon_station.specs.Fault.{Told, told_text}
use Rattle.mon_station.specs.Lived.{last_state}
use Rattle.mon_station.specs.State.{State, owed_count, setting_of}
use Rattle.mon_station.specs.Verdict.{slot_of}
use Rattle.mon_world.specs.declared.fault.WorldFault.{WorldFault}
use Rattle.mon_world.specs.declared.sending.Sent.{Sent}
use Rattle.mon_world.specs.Fault.{innermost_of}
use Rattle.mon_world.specs.Moves.{Move, lives_of}
use Rattle.mon_world.specs.Places.{others_to}

-- ---- of a step
-- this many numbers, from this one on, with a blank before each
abbrev pub numbers_from : ℕ → ℕ → List ℕ
numbers_from first zero = []
numbers_from first (suc n) = numbers_from first n ++ codes " " ++ decimal (first + n)

-- the numbers of the datagrams that were sent, where there are any
abbrev pub sent_text : Sent → List ℕ
sent_text sent = if sent.count == 0 then codes "ok" else codes "ok sent"
    ++ numbers_from sent.first sent.count

-- a refusal: the crate that refused, and the number and the name of its fault
abbrev pub refused_text : Told → List ℕ
refused_text fault = codes "refused " ++ told_text fault

-- the answer of a step
abbrev pub answer_text : Result Sent WorldFault → List ℕ
answer_text (Ok sent) = sent_text sent
answer_text (Err f) = refused_text (innermost_of f)

-- the line of the step of this number
unfoldable pub step_line : ℕ → Result Sent WorldFault → List ℕ
step_line number answer = codes "step " ++ decimal number ++ codes ": " ++ answer_text answer
    ++ codes "\n"

-- the lines of steps with these answers, from this number on
abbrev pub step_lines : ℕ → List (Result Sent WorldFault) → List ℕ
step_lines number [] = []
step_lines number (answer ∷ answers) = step_line number answer ++ step_lines (number + 1) answers

-- ---- of a station
-- how many samples a station in this state owes a peer
unfoldable pub owed_line : State → ℕ → List ℕ
owed_line s peer = codes "owes " ++ decimal peer ++ codes " "
    ++ decimal (owed_count s (slot_of (setting_of s).peers peer)) ++ codes "\n"

-- station x of this many, in this state: its incarnation, what it owes each other one, and its
-- report
unfoldable pub station_text : (count x : ℕ) → State → List ℕ
station_text count x s =
    codes "station " ++ decimal x ++ codes " incarnation " ++ decimal s.incarnation ++ codes "\n"
    ++ flat_map (owed_line s) (others_to x count)
    ++ report s.board.watch (window_of s.board)

-- the text of a station that there is
abbrev pub text_at : (count x : ℕ) → Option State → List ℕ
text_at count x None = []
text_at count x (Some s) = station_text count x s

-- the first N stations of as many as there are, as these moves left them
abbrev pub stations_text : ℕ → List Move → ℕ → List ℕ
stations_text count moves zero = []
stations_text count moves (suc n) = stations_text count moves n
    ++ text_at count (suc n) (last_state (lives_of (suc n) moves))
