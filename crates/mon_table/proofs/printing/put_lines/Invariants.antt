use Rattle.std.proofs.Common.{◌≡◌, ◌++◌, None, drop, option_copied, string_bytes}
use Rattle.mon_table.specs.Table.{lines_from}
use Rattle.mon_table.proofs.printing.put_lines.Given as goal

-- what is written, and the lines that are left, are all lines
abbrev pub invariant-loop-row : goal.invariant-loop-row
invariant-loop-row g l =
    string_bytes l.text
    ++ lines_from (g.S.NameTexts.shown l.names) l.listing l.lines.shape.widths l.lines.shape.is_aged (option_copied l.before) (drop l.row-index l.lines.rows.now)
    ≡ string_bytes l.fn.text ++ lines_from (g.S.NameTexts.shown l.names) l.listing l.lines.shape.widths l.lines.shape.is_aged None l.lines.rows.now
