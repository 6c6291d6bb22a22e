-- What a station did over its rounds, and when it reports.
use Rattle.std.specs.Prelude.{◌≡◌, ◌≢◌, ◌⊎◌, ℕ, ◌+◌, ◌-◌, ◌^◌, ◌/◌, ◌%◌, List, map, min}
use Rattle.mon_alarms.specs.Announcing.{noted}
use Rattle.mon_alarms.specs.declared.change.AlarmChange.{AlarmChange}
use Rattle.mon_board.specs.Board.{Board}
use Rattle.mon_report.specs.Alarms.{changes_from, windows_of}
use Rattle.mon_rounds.specs.declared.totals.Totals.{Totals}
use Rattle.mon_station.specs.State.{State, owed_count, setting_of}
use Rattle.mon_station.specs.Verdict.{slot_of}

-- a sum that counts up to 2^64 - 1
abbrev pub counted_on : ℕ → ℕ → ℕ
counted_on sum more = min (sum + more) (2 ^ 64 - 1)

-- by the station number of each of these peers, how many samples a station in this state owes it
abbrev pub debts_to : State → List ℕ → List (ℕ × ℕ)
debts_to s peers = map (λ peer. (peer, owed_count s (slot_of (setting_of s).peers peer))) peers

-- the report is due after the round of this number: after every N rounds, and never if N is 0
pub record IsDue (round every : ℕ) : Type 0 where
  pub asked : every ≢ 0
  pub whole : round % every ≡ 0

-- how many milliseconds of a time in nanoseconds are left when others have passed, at most a minute
-- of them
abbrev pub milliseconds_left : ℕ → ℕ → ℕ
milliseconds_left whole passed = min ((whole - passed) / 1_000_000) 60_000

-- what became of a board's alarms since their windows were seen so
abbrev pub changes_since : Board → (seen : List (List ℕ)) → List AlarmChange
changes_since board seen = changes_from board 0 board.watch.rules seen

-- Memory was refused for what is announced of a board: no change was taken; or the changes are
-- known, and the look does not count.
abbrev pub IsUnannounced : Board → (before after : Totals) → Type 0
IsUnannounced board before after =
    ((after.windows ≡ before.windows) × (after.announcer ≡ before.announcer))
    ⊎ ((map (λ w. w.items) after.windows.items ≡ windows_of board)
    × (after.announcer ≡ noted (changes_since board (map (λ w. w.items) before.windows.items))
    before.announcer))
