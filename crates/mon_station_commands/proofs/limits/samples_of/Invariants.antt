use Rattle.std.proofs.Common.{◌≡◌, ◌≤◌, ◌*◌, take}
use Rattle.mon_station_commands.specs.Limits.{samples_of}
use Rattle.mon_station_commands.proofs.limits.samples_of.Given as goal

-- the sum so far, which is small
abbrev pub invariant-loop-it : goal.invariant-loop-it
invariant-loop-it l = (l.samples ≡ samples_of (take l.it-index l.instances)) × (l.samples ≤ 64 * l.it-index)
