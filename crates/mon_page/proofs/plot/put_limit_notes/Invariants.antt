use Rattle.std.proofs.Common.{◌≡◌, ◌++◌, take}
use Rattle.std.specs.List.{flat_map}
use Rattle.mon_page.specs.Plot.{limit_note}
use Rattle.mon_page.proofs.plot.put_limit_notes.Given as goal

-- those so far are written
abbrev pub invariant-loop-rule : goal.invariant-loop-rule
invariant-loop-rule l = l.text.items ≡ l.fn.text.items ++ flat_map (limit_note l.column l.counted) (take l.rule-index l.rules)
