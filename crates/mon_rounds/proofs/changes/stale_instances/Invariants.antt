use Rattle.std.proofs.Common.{◌≡◌, map, take}
use Rattle.mon_rounds.specs.Changes.{is_stale}
use Rattle.mon_rounds.proofs.changes.stale_instances.Given as goal

-- those so far
abbrev pub invariant-loop-instance : goal.invariant-loop-instance
invariant-loop-instance l = l.stale.items ≡ map (is_stale l.limit l.said l.freshness.targets.items) (take l.instance-index l.instances)
