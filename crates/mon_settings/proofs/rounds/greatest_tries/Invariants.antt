use Rattle.std.proofs.Common.{◌≡◌, take}
use Rattle.mon_settings.specs.RoundTime.{greatest_tries}
use Rattle.mon_settings.proofs.rounds.greatest_tries.Given as goal

-- the greatest so far
abbrev pub invariant-loop-target : goal.invariant-loop-target
invariant-loop-target l = l.most ≡ greatest_tries (take l.target-index l.targets)
