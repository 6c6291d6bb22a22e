use Rattle.std.proofs.Common.{◌≡◌, ◌*◌, length, take}
use Rattle.mon_fields.specs.Layout.{numbers_octets}
use Rattle.mon_fields.proofs.writing.write_numbers.Given as goal

-- the octets so far are those of the numbers so far
abbrev pub invariant-loop-number : goal.invariant-loop-number
invariant-loop-number l = record {
  at : l.at ≡ 4 * l.number-index;
  len : length l.octets ≡ 4 * length l.numbers;
  front : take l.at l.octets ≡ numbers_octets (take l.number-index l.numbers);
}
