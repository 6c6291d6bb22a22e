-- A board's alarms, and what became of them.
use Rattle.std.specs.Prelude.{◌≡◌, ℕ, ◌+◌, ◌<◌, ◌≤◌, List, [], ◌∷◌, ◌++◌, length, map}
use Rattle.std.specs.Prelude.{slice_index_or, vec_capacity}
use Rattle.std.specs.Global.{Vec}
use Rattle.mon_alarms.specs.declared.alarm.AlarmState.{AlarmState}
use Rattle.mon_alarms.specs.declared.change.AlarmChange.{AlarmChange}
use Rattle.mon_alarms.specs.Changes.{changes_of, raised_now}
use Rattle.mon_alarms.specs.Observed.{state_by}
use Rattle.mon_alarms.specs.Rule.{Rule}
use Rattle.mon_board.specs.Board.{Board, window_of}
use Rattle.mon_window.specs.Top.{rising}

-- a board's samples of a rule's instance, the oldest first
abbrev pub samples_for : Board → Rule → List ℕ
samples_for b r = rising (window_of b r.instance)

-- the windows of a board's rules, in the order of the watch
abbrev pub windows_of : Board → List (List ℕ)
windows_of b = map (samples_for b) b.watch.rules

-- there is a window for each of a board's rules, with memory for its samples
pub record HaveRoom (b : Board) (windows : List (Vec ℕ)) : Type 0 where
  pub number : length windows ≡ length b.watch.rules
  pub each : (i : ℕ) (r : Rule) (w : Vec ℕ) → i < length b.watch.rules
      → length (samples_for b (slice_index_or b.watch.rules i r))
      ≤ vec_capacity (slice_index_or windows i w)

-- the state of each of a board's rules over its window, in the order of the watch
abbrev pub states_of : Board → List AlarmState
states_of b = map (λ r. state_by r (samples_for b r)) b.watch.rules

-- what became of these rules' alarms since their windows were seen so, of which the first has this
-- number
abbrev pub changes_from : Board → ℕ → List Rule → List (List ℕ) → List AlarmChange
changes_from b number [] seen = []
changes_from b number (r ∷ rules) [] = []
changes_from b number (r ∷ rules) (was ∷ seen) = changes_of number r was (samples_for b r)
    ++ changes_from b (number + 1) rules seen

-- these rules' alarms that are raised, of which the first has this number
abbrev pub raised_from : Board → ℕ → List Rule → List AlarmChange
raised_from b number [] = []
raised_from b number (r ∷ rules) = raised_now number (state_by r (samples_for b r))
    ++ raised_from b (number + 1) rules
