use Rattle.std.proofs.Common.{◌≡◌, ◌++◌, drop, map}
use Rattle.mon_report.specs.Alarms.{changes_from}
use Rattle.mon_report.proofs.alarms.alarm_changes.Given as goal

-- the changes so far, and those that are left
abbrev pub invariant-loop-number : goal.invariant-loop-number
invariant-loop-number l = l.changes.items ++ changes_from l.board l.number (drop l.number l.rules) (map (λ w. w.items) (drop l.number l.seen)) ≡ changes_from l.board 0 l.rules (map (λ w. w.items) l.seen)
