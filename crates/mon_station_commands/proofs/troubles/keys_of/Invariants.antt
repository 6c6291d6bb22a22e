use Rattle.std.proofs.Common.{◌≡◌, map, take}
use Rattle.mon_station_commands.specs.Troubles.{key_in, key_of}
use Rattle.mon_station_commands.proofs.troubles.keys_of.Given as goal

-- the keys of the changes so far
abbrev pub invariant-loop-change : goal.invariant-loop-change
invariant-loop-change l = map key_in l.keys.items ≡ map (key_of l.fn.facts) (take l.change-index l.changes)
