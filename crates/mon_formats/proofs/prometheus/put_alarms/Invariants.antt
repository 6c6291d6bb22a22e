use Rattle.std.proofs.Common.{◌≡◌, ◌++◌, take}
use Rattle.std.specs.List.{flat_map}
use Rattle.mon_formats.specs.Prometheus.{alarm_line}
use Rattle.mon_formats.proofs.prometheus.put_alarms.Given as goal

-- those so far are written
abbrev pub invariant-loop-alarm : goal.invariant-loop-alarm
invariant-loop-alarm l = l.text.items ≡ l.fn.text.items ++ flat_map (alarm_line l.labels) (take l.alarm-index l.alarm-items)
