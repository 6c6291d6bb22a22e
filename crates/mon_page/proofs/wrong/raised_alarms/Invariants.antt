use Rattle.std.proofs.Common.{◌≡◌, take}
use Rattle.mon_page.specs.Page.{raised_alarms}
use Rattle.mon_page.proofs.wrong.raised_alarms.Given as goal

-- those of the instances so far
abbrev pub invariant-loop-row : goal.invariant-loop-row
invariant-loop-row l = l.found.items ≡ raised_alarms (take l.row-index l.rows)
