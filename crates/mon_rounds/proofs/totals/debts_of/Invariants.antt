use Rattle.std.proofs.Common.{◌≡◌, take}
use Rattle.mon_station.specs.State.{state_of}
use Rattle.mon_rounds.specs.Totals.{debts_to}
use Rattle.mon_rounds.proofs.totals.debts_of.Given as goal

-- the debts to those so far
abbrev pub invariant-loop-peer : goal.invariant-loop-peer
invariant-loop-peer g l = l.debts.items ≡ debts_to (state_of l.station.life) (take l.peer-index l.peers)
