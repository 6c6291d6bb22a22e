use Rattle.std.proofs.Common.{◌≡◌, map, take}
use Rattle.mon_report.specs.Alarms.{samples_for}
use Rattle.mon_report.proofs.alarms.seen_windows.Given as goal

-- the windows so far
abbrev pub invariant-loop-rule : goal.invariant-loop-rule
invariant-loop-rule l = map (λ w. w.items) l.windows.items ≡ map (samples_for l.board) (take l.rule-index l.rules)
