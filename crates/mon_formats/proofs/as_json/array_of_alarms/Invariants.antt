use Rattle.std.proofs.Common.{◌≡◌, map, take}
use Rattle.serde_json.specs.View.{view}
use Rattle.mon_formats.specs.Json.{alarm_data}
use Rattle.mon_formats.proofs.as_json.array_of_alarms.Given as goal

-- those so far are made
abbrev pub invariant-loop-alarm : goal.invariant-loop-alarm
invariant-loop-alarm l = map view l.values.items ≡ map alarm_data (take l.alarm-index l.alarms)
