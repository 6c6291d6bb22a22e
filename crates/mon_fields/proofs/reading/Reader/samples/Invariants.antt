use Rattle.std.proofs.Common.{◌≡◌, ◌≤◌, ◌-◌, length}
use Rattle.mon_fields.specs.Reading.{one_by_one, with_front, sample_at, samples_at}
use Rattle.mon_fields.proofs.reading.Reader.samples.Given as goal

abbrev pub invariant-loop-last : goal.invariant-loop-last
invariant-loop-last l = (length l.samples.items ≤ l.count)
    × (with_front l.samples.items (one_by_one sample_at l.last (l.count - length l.samples.items) l.self) ≡ samples_at l.count l.fn.self)

abbrev pub decreases-loop-last : goal.decreases-loop-last
decreases-loop-last l = l.count - length l.samples.items
