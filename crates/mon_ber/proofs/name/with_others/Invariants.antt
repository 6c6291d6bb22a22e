use Rattle.std.proofs.Common.{◌≡◌, ◌-◌, ◌≤◌, length}
use Rattle.mon_oid.specs.Oid.{IsOid}
use Rattle.mon_ber.specs.Reading.{subidentifiers_of}
use Rattle.mon_ber.specs.Many.{with_front}
use Rattle.mon_ber.proofs.name.with_others.Given as goal

abbrev pub invariant-loop-rest : goal.invariant-loop-rest
invariant-loop-rest l = record {
  so_far : with_front l.parts.items (subidentifiers_of (128 - length l.parts.items) l.rest)
      ≡ with_front l.initial.parts.items (subidentifiers_of (128 - length l.initial.parts.items) l.octets);
  valid : IsOid l.parts.items;
  room : l.initial.parts.capacity ≤ l.parts.capacity;
}

abbrev pub decreases-loop-rest : goal.decreases-loop-rest
decreases-loop-rest l = length l.rest
