use Rattle.std.proofs.Common.{◌≡◌, ◌++◌, take}
use Rattle.std.specs.List.{flat_map}
use Rattle.mon_page.specs.Plot.{rule_lines}
use Rattle.mon_page.proofs.plot.put_rules.Given as goal

-- those so far are written
abbrev pub invariant-loop-rule : goal.invariant-loop-rule
invariant-loop-rule l = l.text.items ≡ l.fn.text.items ++ flat_map (rule_lines l.counted l.scale) (take l.rule-index l.rules)
