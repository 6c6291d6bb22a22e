use Rattle.std.proofs.Common.{◌≡◌, take}
use Rattle.std.specs.Prelude.{filter}
use Rattle.mon_page.specs.Seats.{is_at}
use Rattle.mon_page.proofs.seats.interface_of_index.Given as goal

-- those of the instances so far
abbrev pub invariant-loop-row : goal.invariant-loop-row
invariant-loop-row l = l.found.items ≡ filter (is_at l.index) (take l.row-index l.rows)
