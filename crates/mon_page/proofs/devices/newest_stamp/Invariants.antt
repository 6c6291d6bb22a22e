use Rattle.std.proofs.Common.{◌≡◌, drop}
use Rattle.mon_page.specs.Devices.{newest_stamp}
use Rattle.mon_page.proofs.devices.newest_stamp.Given as goal

-- of the greatest so far and those that are left the greatest is that of all
abbrev pub invariant-loop-row : goal.invariant-loop-row
invariant-loop-row l = newest_stamp l.newest (drop l.row-index l.device) ≡ newest_stamp 0 l.device
