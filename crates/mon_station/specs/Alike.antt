-- What a station holds of the samples that it took over all its lives, and stations that took the
-- same ones.
use Rattle.std.specs.Prelude.{ℕ, ◌≡◌, List, Some}
use Rattle.mon_board.specs.Board.{window_of}
use Rattle.mon_board.specs.Windows.{kept_by}
use Rattle.mon_report.specs.Report.{report}
use Rattle.mon_station.specs.Lived.{IsLived, entries_of, last_state}
use Rattle.mon_station.specs.State.{State}
use Rattle.mon_station.specs.Taken.{Entry, taken}

-- over all lives each window is what the watch keeps of the samples that were taken of its instance
abbrev pub WindowsAreOfTaken : Type 0
WindowsAreOfTaken = (history : List (Entry × State)) (s : State) → IsLived history
    → last_state history ≡ Some s → (i : ℕ)
    → window_of s.board i ≡ kept_by s.board.watch i (taken (entries_of history) i)

-- lives led to two states with equal watches, and the same samples were taken in both
pub record TookTheSame (some others : List (Entry × State)) (s t : State) : Type 0 where
  pub lived : IsLived some × IsLived others
  pub state : last_state some ≡ Some s
  pub state_too : last_state others ≡ Some t
  pub watch : s.board.watch ≡ t.board.watch
  pub same : (i : ℕ) → taken (entries_of some) i ≡ taken (entries_of others) i

-- over all lives, states with equal watches that took the same hold equal windows
abbrev pub EqualWindows : Type 0
EqualWindows = (some others : List (Entry × State)) (s t : State) → TookTheSame some others s t
    → (i : ℕ) → window_of s.board i ≡ window_of t.board i

-- and they print equal reports
abbrev pub EqualReports : Type 0
EqualReports = (some others : List (Entry × State)) (s t : State) → TookTheSame some others s t
    → report s.board.watch (window_of s.board) ≡ report t.board.watch (window_of t.board)
