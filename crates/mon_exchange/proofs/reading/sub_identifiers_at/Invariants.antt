use Rattle.std.proofs.Common.{◌≡◌, ◌≤◌, ◌-◌, length, None}
use Rattle.mon_fields.specs.Reading.{one_by_one, with_front}
use Rattle.mon_exchange.specs.Reading.{next_number, sub_identifiers_at}
use Rattle.mon_exchange.proofs.reading.sub_identifiers_at.Given as goal

abbrev pub invariant-loop-reader : goal.invariant-loop-reader
invariant-loop-reader l = (length l.numbers.items ≤ l.count)
    × (with_front l.numbers.items (one_by_one next_number None (l.count - length l.numbers.items) l.reader) ≡ sub_identifiers_at l.count l.fn.reader)

abbrev pub decreases-loop-reader : goal.decreases-loop-reader
decreases-loop-reader l = l.count - length l.numbers.items
