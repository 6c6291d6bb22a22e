use Rattle.std.proofs.Common.{◌≡◌, ◌++◌, drop}
use Rattle.mon_page.specs.Devices.{devices, devices_from}
use Rattle.mon_page.proofs.devices.devices_of.Given as goal

-- those so far, and those that begin later, are all
abbrev pub invariant-loop-place : goal.invariant-loop-place
invariant-loop-place l = l.found.items ++ devices_from l.rows l.place (drop l.place l.rows) ≡ devices l.rows
