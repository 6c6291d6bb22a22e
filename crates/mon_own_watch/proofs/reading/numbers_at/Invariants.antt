use Rattle.std.proofs.Common.{◌≡◌, ◌≤◌, ◌-◌, length, None}
use Rattle.mon_fields.specs.Reading.{one_by_one, with_front}
use Rattle.mon_own_watch.specs.Reading.{next_number, numbers_at}
use Rattle.mon_own_watch.proofs.reading.numbers_at.Given as goal

abbrev pub invariant-loop-reader : goal.invariant-loop-reader
invariant-loop-reader l = (length l.numbers.items ≤ l.count)
    × (with_front l.numbers.items (one_by_one next_number None (l.count - length l.numbers.items) l.reader) ≡ numbers_at l.count l.fn.reader)

abbrev pub decreases-loop-reader : goal.decreases-loop-reader
decreases-loop-reader l = l.count - length l.numbers.items
