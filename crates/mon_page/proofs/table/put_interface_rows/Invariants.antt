use Rattle.std.proofs.Common.{◌≡◌, ◌++◌, take}
use Rattle.std.specs.List.{flat_map}
use Rattle.mon_page.specs.Page.{interface_row}
use Rattle.mon_page.proofs.table.put_interface_rows.Given as goal

-- those so far are written
abbrev pub invariant-loop-interface : goal.invariant-loop-interface
invariant-loop-interface l = l.text.items ≡ l.fn.text.items ++ flat_map interface_row (take l.interface-index l.interfaces)
