use Rattle.std.proofs.Common.{◌≡◌, drop}
use Rattle.mon_page.specs.Plot.{with_rules}
use Rattle.mon_page.proofs.plot.with_rules.Given as goal

-- the scale so far, with the rules that are left, is the whole
abbrev pub invariant-loop-rule : goal.invariant-loop-rule
invariant-loop-rule l = with_rules l.counted l.scale (drop l.rule-index l.rules) ≡ with_rules l.fn.counted l.fn.scale l.rules
