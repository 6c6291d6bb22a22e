use Rattle.std.proofs.Common.{◌≡◌, take}
use Rattle.mon_board.specs.Windows.{paired}
use Rattle.mon_station.proofs.life.pairs_of.Given as goal

-- the samples so far, each with the number
abbrev pub invariant-loop-sample : goal.invariant-loop-sample
invariant-loop-sample l = l.pairs ≡ paired l.number (take l.sample-index l.samples)
