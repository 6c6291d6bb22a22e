use Rattle.std.proofs.Common.{◌≡◌, map, take}
use Rattle.mon_board.specs.Instance.{named}
use Rattle.mon_formats.proofs.prometheus.series.bare_entries.Given as goal

-- the entries so far
abbrev pub invariant-loop-one : goal.invariant-loop-one
invariant-loop-one l = map (λ e. named e.engine e.name) l.entries.items ≡ map (λ w. w.instance) (take l.one-index l.watched)
