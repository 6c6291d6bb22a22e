use Rattle.std.proofs.Common.{◌≡◌, ◌++◌, List}
use Rattle.mon_world.specs.Moves.{Move}
use Rattle.mon_world.specs.Shows.{Shows}
use Rattle.mon_rehearsal.specs.Printed.{stations_text}
use Rattle.mon_rehearsal.proofs.printed.put_stations.Given as goal

-- this many stations are written
abbrev pub invariant-loop-place : goal.invariant-loop-place
invariant-loop-place l = (moves : List Move) → Shows l.world.core l.world.stations.items l.world.sent.items moves → l.text.items ≡ l.fn.text.items ++ stations_text l.count moves l.place
