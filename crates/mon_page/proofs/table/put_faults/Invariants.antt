use Rattle.std.proofs.Common.{◌≡◌, ◌++◌, take}
use Rattle.std.specs.List.{flat_map}
use Rattle.mon_page.specs.Page.{fault_of}
use Rattle.mon_page.proofs.table.put_faults.Given as goal

-- those so far are written
abbrev pub invariant-loop-row : goal.invariant-loop-row
invariant-loop-row l = l.text.items ≡ l.fn.text.items ++ flat_map fault_of (take l.row-index l.rows)
