use Rattle.std.proofs.Common.{◌≡◌, ◌++◌, take}
use Rattle.std.specs.List.{flat_map}
use Rattle.mon_formats.specs.Prometheus.{reason_if}
use Rattle.mon_formats.proofs.prometheus.target.put_refusals.Given as goal

-- those so far are written
abbrev pub invariant-loop-target : goal.invariant-loop-target
invariant-loop-target l = l.text.items ≡ l.initial.text.items ++ flat_map (λ t. reason_if l.station t t.refusal) (take l.target-index l.targets)
