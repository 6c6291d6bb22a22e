use Rattle.std.proofs.Common.{◌≡◌, ◌++◌, take}
use Rattle.std.specs.List.{flat_map}
use Rattle.mon_formats.specs.Named.{named_line}
use Rattle.mon_formats.proofs.named.put_lines.Given as goal

-- the lines so far are written
abbrev pub invariant-loop-entry : goal.invariant-loop-entry
invariant-loop-entry g l = l.text.items ≡ l.fn.text.items ++ flat_map (named_line (g.S.NameTexts.shown l.names)) (take l.entry-index l.entries)
