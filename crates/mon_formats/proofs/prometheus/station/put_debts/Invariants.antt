use Rattle.std.proofs.Common.{◌≡◌, ◌++◌, take}
use Rattle.std.specs.List.{flat_map}
use Rattle.mon_formats.specs.Prometheus.{debt_line}
use Rattle.mon_formats.proofs.prometheus.station.put_debts.Given as goal

-- those so far are written
abbrev pub invariant-loop-peer : goal.invariant-loop-peer
invariant-loop-peer l = l.text.items ≡ l.initial.text.items ++ flat_map (debt_line l.station) (take l.peer-index l.debts)
