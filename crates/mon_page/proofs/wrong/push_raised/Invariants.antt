use Rattle.std.proofs.Common.{◌≡◌, ◌++◌, take}
use Rattle.mon_page.specs.Page.{raised_on}
use Rattle.mon_page.proofs.wrong.push_raised.Given as goal

-- those so far
abbrev pub invariant-loop-alarm : goal.invariant-loop-alarm
invariant-loop-alarm l = l.found.items ≡ l.fn.found.items ++ raised_on l.row (take l.alarm-index l.alarms)
