-- The notices of what a station saw, for a receiver of Alertmanager's webhooks.
use Rattle.std.specs.Prelude.{ℕ, List}
use Rattle.mon_alarms.specs.declared.change.AlarmChange.{AlarmChange}
use Rattle.mon_board.specs.declared.board.Board.{Board}
use Rattle.mon_console.specs.Shown.{shown_by}
use Rattle.mon_console.specs.declared.printing.Printing.{Printing}
use Rattle.mon_console.specs.declared.seen.DeviceSeen.{DeviceSeen}
use Rattle.mon_console.specs.declared.seen.Seen.{Seen}
use Rattle.mon_formats.specs.Changes.{change_line}
use Rattle.mon_notify.specs.Texts.{alarm_text, device_text}

-- the notice of an alarm of a board that changed; its summary is the line of the alarm
abbrev pub alarm_notice : Printing → Board → Seen → AlarmChange → List ℕ
alarm_notice printing board seen change =
    alarm_text (shown_by printing.names) board printing.labels.items seen.station
    (change_line (shown_by printing.names) board printing.labels.items change) seen.date change

-- the notice of a device that was seen down or up, with this line for people
abbrev pub device_notice : Printing → Seen → DeviceSeen → (summary : List ℕ) → List ℕ
device_notice printing seen device summary =
    device_text printing.labels.items seen.station summary seen.date device.target device.is_down
