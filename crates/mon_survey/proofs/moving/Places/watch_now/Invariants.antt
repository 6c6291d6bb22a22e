use Rattle.std.proofs.Common.{◌≡◌, take}
use Rattle.std.specs.List.{flat_map}
use Rattle.std.specs.Option.{option_to_list}
use Rattle.mon_survey.specs.Moved.{at_of, watched_now}
use Rattle.mon_survey.proofs.moving.Places.watch_now.Given as goal

-- what is watched so far
abbrev pub invariant-loop-watched : goal.invariant-loop-watched
invariant-loop-watched l = l.all.items ≡ flat_map (λ w. option_to_list (watched_now (at_of l.self) w)) (take l.watched-index l.instances)
