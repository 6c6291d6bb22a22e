use Rattle.std.proofs.Common.{◌≡◌, drop}
use Rattle.mon_board.specs.Instance.{instances_of}
use Rattle.mon_fields.specs.Reading.{with_front}
use Rattle.mon_saved.specs.Reading.{entries_at}
use Rattle.mon_saved.proofs.reading.entries_at.Given as goal

abbrev pub invariant-loop-one : goal.invariant-loop-one
invariant-loop-one l = with_front l.entries.items (entries_at l.window (instances_of (drop l.one-index l.watched)) l.reader)
    ≡ entries_at l.window (instances_of l.watched) l.fn.reader
