use Rattle.std.proofs.Common.{◌≡◌, ◌++◌, drop}
use Rattle.mon_page.specs.Seats.{interfaces_from}
use Rattle.mon_page.proofs.seats.interfaces.Given as goal

-- those so far, and those of the instances that are left, are all
abbrev pub invariant-loop-place : goal.invariant-loop-place
invariant-loop-place l = l.found.items ++ interfaces_from l.rows l.place (drop l.place l.rows) ≡ interfaces_from l.rows 0 l.rows
