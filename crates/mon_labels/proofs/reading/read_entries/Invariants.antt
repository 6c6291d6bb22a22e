use Rattle.std.proofs.Common.{◌≡◌, ◌+◌, [], drop, map}
use Rattle.toml.specs.View.{items_view}
use Rattle.mon_labels.specs.Described.{described}
use Rattle.mon_labels.specs.Reading.{entries}
use Rattle.mon_labels.proofs.reading.read_entries.Given as goal

-- what is read so far, and the entries that are left, are the whole
abbrev pub invariant-loop-index : goal.invariant-loop-index
invariant-loop-index l =
    entries 1 [] (items_view l.values) ≡ entries (l.index + 1) (map described l.done.items) (items_view (drop l.index l.values))
