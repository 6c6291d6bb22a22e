use Rattle.std.proofs.Common.{◌≡◌, ◌++◌, take}
use Rattle.std.specs.List.{flat_map}
use Rattle.std.specs.Option.{option_to_list}
use Rattle.mon_survey.specs.Moved.{at_of, ruling_of}
use Rattle.mon_survey.proofs.ruling.add_new.Given as goal

-- the alarms so far
abbrev pub invariant-loop-one : goal.invariant-loop-one
invariant-loop-one l = l.all.items ≡ l.initial.all.items ++ flat_map (λ p. option_to_list (ruling_of (at_of l.places) l.percent p)) (take l.one-index l.planned)
