use Rattle.std.proofs.Common.{◌≢◌, AllPairs, take}
use Rattle.mon_settings.proofs.peers.differ.Given as goal

-- no two so far are one
abbrev pub invariant-loop-i : goal.invariant-loop-i
invariant-loop-i l = AllPairs (λ a b. a ≢ b) (take l.i l.numbers)
