use Rattle.std.proofs.Common.{◌≡◌, ◌++◌, drop, true}
use Rattle.mon_page.specs.Seats.{placed, placed_from}
use Rattle.mon_page.proofs.seats.placed.Given as goal

-- those so far, and those of the instances that are left, are all
abbrev pub invariant-loop-place : goal.invariant-loop-place
invariant-loop-place l = l.rows.items ++ placed_from true l.device l.place (drop l.place l.device) ≡ placed l.device
