use Rattle.std.proofs.Common.{◌≡◌, ◌++◌, string_bytes}
use Rattle.std.specs.List.{flat_map}
use Rattle.mon_world.specs.Places.{others_to}
use Rattle.mon_world.specs.Shows.{state_in}
use Rattle.mon_rehearsal.specs.Printed.{owed_line}
use Rattle.mon_rehearsal.proofs.printed.put_debts.Given as goal

-- those to this many are written
abbrev pub invariant-loop-place : goal.invariant-loop-place
invariant-loop-place l = string_bytes l.lines ≡ string_bytes l.fn.lines ++ flat_map (owed_line (state_in l.station)) (others_to l.number l.place)
