use Rattle.std.proofs.Common.{◌≡◌}
use Rattle.mon_host.specs.Log.{GoesOnBy}
use Rattle.mon_station_commands.specs.Notifying.{IsServed}
use Rattle.mon_station_commands.specs.Quiet.{AreQuiet}
use Rattle.mon_station_commands.proofs.pace.pause.Given as goal

-- `AreQuiet` holds so far, what reports need is as it was, and what delivers had its turns
abbrev pub invariant-loop : goal.invariant-loop
invariant-loop g l = GoesOnBy AreQuiet (g.H.Host.log l.fn.host) (g.H.Host.log l.host)
    × (l.live.reports.printing ≡ l.fn.live.reports.printing) × (l.live.reports.paths ≡ l.fn.live.reports.paths)
    × (l.live.kept ≡ l.fn.live.kept) × IsServed l.fn.live.ended l.live.ended l.fn.live.courier l.live.courier
