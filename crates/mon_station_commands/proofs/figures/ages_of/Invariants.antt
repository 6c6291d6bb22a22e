use Rattle.std.proofs.Common.{◌≡◌, map, take}
use Rattle.mon_rounds.specs.declared.freshness.InstanceAge.{InstanceAge}
use Rattle.mon_station_commands.proofs.figures.ages_of.Given as goal

-- the ages so far
abbrev pub invariant-loop-instance : goal.invariant-loop-instance
invariant-loop-instance l = l.ages.items ≡ map (λ (i : InstanceAge). i.rounds) (take l.instance-index l.instances)
