use Rattle.std.proofs.Common.{◌≡◌, map, take}
use Rattle.std.specs.Prelude.{string_bytes}
use Rattle.mon_station_commands.proofs.station.copies_of.Given as goal

-- the copies so far
abbrev pub invariant-loop-text : goal.invariant-loop-text
invariant-loop-text l = map string_bytes l.copies.items ≡ map (λ t. t.now) (take l.text-index l.texts)
