use Rattle.std.proofs.Common.{◌≡◌, map, take}
use Rattle.mon_exchange.specs.Peers.{unheard}
use Rattle.mon_exchange.proofs.peers.Peers.new.Given as goal

-- the peers so far
abbrev pub invariant-loop-number : goal.invariant-loop-number
invariant-loop-number l = l.peers.items ≡ map unheard (take l.number-index l.numbers)
