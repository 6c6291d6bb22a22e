use Rattle.std.proofs.Common.{◌≡◌, take}
use Rattle.mon_board.proofs.watch.copy_rules.Given as goal

-- what was copied so far
abbrev pub invariant-loop-rule : goal.invariant-loop-rule
invariant-loop-rule l = l.copies.items ≡ take l.rule-index l.all
