use Rattle.std.proofs.Common.{◌≡◌, drop}
use Rattle.mon_labels.specs.Table.{is_one_of}
use Rattle.mon_labels.proofs.table.is_one_of.Given as goal

-- the keys so far are others
abbrev pub invariant-loop-key : goal.invariant-loop-key
invariant-loop-key l = is_one_of l.keys l.name ≡ is_one_of (drop l.key-index l.keys) l.name
