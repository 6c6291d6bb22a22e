use Rattle.std.proofs.Common.{ℕ, ◌<◌, ◌≤◌, get_or, length}
use Rattle.std.specs.Global.{Vec}
use Rattle.std.specs.Prelude.{vec_capacity}
use Rattle.mon_alarms.specs.Rule.{Rule}
use Rattle.mon_report.specs.Alarms.{samples_for}
use Rattle.mon_report.proofs.alarms.have_room.Given as goal

-- the windows so far have memory for their samples
abbrev pub invariant-loop-number : goal.invariant-loop-number
invariant-loop-number l = (j : ℕ) (r : Rule) (w : Vec ℕ) → j < l.number
    → length (samples_for l.board (get_or l.rules j r)) ≤ vec_capacity (get_or l.windows j w)
