use Rattle.std.proofs.Common.{◌≡◌, ◌++◌, take}
use Rattle.std.specs.List.{flat_map}
use Rattle.std.specs.Option.{option_to_list}
use Rattle.mon_survey.specs.Plan.{planned_by}
use Rattle.mon_survey.proofs.planning.add_counters.Given as goal

-- the counters so far
abbrev pub invariant-loop-counter : goal.invariant-loop-counter
invariant-loop-counter l = l.counters.items ≡ l.initial.counters.items ++ flat_map (λ counter. option_to_list (planned_by l.choice l.answers l.index counter)) (take l.counter-index l.some)
