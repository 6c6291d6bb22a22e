use Rattle.std.proofs.Common.{◌≡◌, map, take}
use Rattle.std.specs.List.{fold}
use Rattle.mon_table.specs.Cells.{cells_of}
use Rattle.mon_table.specs.Table.{widened}
use Rattle.mon_table.proofs.printing.widths_of.Given as goal

-- the widths of the rows so far
abbrev pub invariant-loop-row : goal.invariant-loop-row
invariant-loop-row g l =
    l.widths ≡ fold widened (record { value = 0; rate = 0; part = 0; out = 0; out_part = 0 })
    (map (cells_of (g.S.NameTexts.shown l.names) l.listing) (take l.row-index l.rows))
