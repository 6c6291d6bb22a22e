use Rattle.std.proofs.Common.{◌≡◌, ◌+◌, ◌∷◌, length, take}
use Rattle.mon_ber.proofs.name.with_octets.Given as goal

abbrev pub invariant-loop-i : goal.invariant-loop-i
invariant-loop-i l = record {
  made : take (l.i + 2) l.parts ≡ l.first ∷ l.second ∷ take l.i l.octets;
  long : length l.parts ≡ 16;
}
