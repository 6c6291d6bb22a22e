use Rattle.std.proofs.Common.{◌≡◌, ◌++◌, take}
use Rattle.std.specs.List.{flat_map}
use Rattle.std.specs.Option.{option_to_list}
use Rattle.mon_survey.specs.Moved.{at_of, ruling_now}
use Rattle.mon_survey.proofs.ruling.add_left.Given as goal

-- the alarms so far
abbrev pub invariant-loop-rule : goal.invariant-loop-rule
invariant-loop-rule l = l.all.items ≡ l.initial.all.items ++ flat_map (λ r. option_to_list (ruling_now (at_of l.places) l.was r)) (take l.rule-index l.rules)
