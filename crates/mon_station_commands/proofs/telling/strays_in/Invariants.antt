use Rattle.std.proofs.Common.{◌≡◌, take}
use Rattle.mon_station_commands.specs.Telling.{last_stray, strays_in}
use Rattle.mon_station_commands.proofs.telling.strays_in.Given as goal

-- the count and the last one so far
abbrev pub invariant-loop-notice : goal.invariant-loop-notice
invariant-loop-notice l = (l.count ≡ strays_in (take l.notice-index l.notices)) × (l.last ≡ last_stray (take l.notice-index l.notices))
