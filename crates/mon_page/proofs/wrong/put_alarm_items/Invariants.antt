use Rattle.std.proofs.Common.{◌≡◌, ◌++◌, take}
use Rattle.std.specs.List.{flat_map}
use Rattle.mon_page.specs.Page.{alarm_item}
use Rattle.mon_page.proofs.wrong.put_alarm_items.Given as goal

-- those so far are written
abbrev pub invariant-loop-alarm : goal.invariant-loop-alarm
invariant-loop-alarm g l = l.text.items ≡ l.fn.text.items ++ flat_map (alarm_item (g.S.NameTexts.shown l.names)) (take l.alarm-index l.alarms)
