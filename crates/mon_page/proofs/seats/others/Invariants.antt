use Rattle.std.proofs.Common.{◌≡◌, ◌++◌, drop, false}
use Rattle.mon_page.specs.Seats.{others, placed_from}
use Rattle.mon_page.proofs.seats.others.Given as goal

-- those so far, and those of the instances that are left, are all
abbrev pub invariant-loop-place : goal.invariant-loop-place
invariant-loop-place l = l.rows.items ++ placed_from false l.device l.place (drop l.place l.device) ≡ others l.device
