use Rattle.std.proofs.Common.{◌≡◌, ◌+◌, ◌≤◌, take}
use Rattle.mon_smi.specs.Positions.{position_behind}
use Rattle.mon_smi.proofs.position.Position.of.Given as goal

-- the place after the octets so far; no octet adds more than one to both numbers together
abbrev pub invariant-loop-octet : goal.invariant-loop-octet
invariant-loop-octet l = record {
  place : l.place ≡ position_behind (take l.octet-index l.octet-items);
  few : l.place.line + l.place.column ≤ l.octet-index + 2;
  some : 1 ≤ l.place.column;
}
