use Rattle.std.proofs.Common.{◌≡◌, map, take}
use Rattle.mon_formats.proofs.prometheus.series.copies_of.Given as goal

-- the copies so far
abbrev pub invariant-loop-one : goal.invariant-loop-one
invariant-loop-one l = l.copies.items ≡ map (λ w. w.instance) (take l.one-index l.watched)
