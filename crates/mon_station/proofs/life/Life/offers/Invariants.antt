use Rattle.std.proofs.Common.{◌≡◌, map, take}
use Rattle.std.specs.List.{AllByRecursion}
use Rattle.mon_exchange.specs.Claim.{IsClaim}
use Rattle.mon_station.specs.State.{serial_past, state_of}
use Rattle.mon_station.specs.Told.{offers_from, to_peer}
use Rattle.mon_station.proofs.life.Life.offers.Given as goal

-- the offers of the portions so far
abbrev pub invariant-loop-portion : goal.invariant-loop-portion
invariant-loop-portion l = record {
  sent : l.sends.items ≡ map (to_peer l.peer) (offers_from (state_of l.self) l.self.serial (take l.portion-index l.portions));
  next : l.serial ≡ serial_past l.self.serial (take l.portion-index l.portions);
  claims : AllByRecursion IsClaim (offers_from (state_of l.self) l.self.serial (take l.portion-index l.portions));
}
