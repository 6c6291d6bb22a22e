use Rattle.std.proofs.Common.{◌≡◌, map, take}
use Rattle.mon_alarms.specs.Observed.{state_by}
use Rattle.mon_report.specs.Alarms.{samples_for}
use Rattle.mon_report.proofs.alarms.alarm_states.Given as goal

-- the states so far
abbrev pub invariant-loop-rule : goal.invariant-loop-rule
invariant-loop-rule l = l.states.items ≡ map (λ r. state_by r (samples_for l.board r)) (take l.rule-index l.rules)
