use Rattle.std.proofs.Common.{◌≡◌, ◌≤◌, ◌-◌, length, None}
use Rattle.mon_fields.specs.Reading.{one_by_one, with_front}
use Rattle.mon_own_watch.specs.Reading.{all_at, next_watched}
use Rattle.mon_own_watch.proofs.reading.all_at.Given as goal

abbrev pub invariant-loop-alloc : goal.invariant-loop-alloc
invariant-loop-alloc l = (length l.all.items ≤ l.many)
    × (with_front l.all.items (one_by_one (next_watched l.window) None (l.many - length l.all.items) l.reader) ≡ all_at l.window l.many l.fn.reader)

abbrev pub decreases-loop-alloc : goal.decreases-loop-alloc
decreases-loop-alloc l = l.many - length l.all.items
