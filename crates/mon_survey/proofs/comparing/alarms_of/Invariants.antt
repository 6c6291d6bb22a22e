use Rattle.std.proofs.Common.{◌≡◌, ◌++◌, drop}
use Rattle.mon_survey.specs.Meant.{alarms_from}
use Rattle.mon_survey.proofs.comparing.alarms_of.Given as goal

-- with the alarms on the instances that are left they are all
abbrev pub invariant-loop-number : goal.invariant-loop-number
invariant-loop-number l =
    l.alarms.items ++ alarms_from l.wanted.engine.now l.wanted.answers.now l.wanted.options.now.percent l.number (drop l.number l.instances)
    ≡ alarms_from l.wanted.engine.now l.wanted.answers.now l.wanted.options.now.percent 0 l.instances
