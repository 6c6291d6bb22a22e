use Rattle.std.proofs.Common.{◌≡◌, ◌++◌, take}
use Rattle.std.specs.List.{flat_map}
use Rattle.mon_formats.specs.Prometheus.{target_line}
use Rattle.mon_formats.proofs.prometheus.target.put_target_metric.Given as goal

-- the head and the lines so far are written
abbrev pub invariant-loop-target : goal.invariant-loop-target
invariant-loop-target l = l.text.items ≡ l.initial.text.items ++ flat_map (target_line l.station l.metric) (take l.target-index l.targets)
