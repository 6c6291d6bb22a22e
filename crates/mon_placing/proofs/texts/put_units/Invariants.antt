use Rattle.std.proofs.Common.{◌≡◌, ◌++◌, string_bytes}
use Rattle.mon_placing.specs.Network.{units_of}
use Rattle.mon_placing.proofs.texts.put_units.Given as goal

-- what was appended for the stations so far
abbrev pub invariant-loop-station : goal.invariant-loop-station
invariant-loop-station l = string_bytes l.text ≡ string_bytes l.fn.text ++ units_of l.network l.part l.station
