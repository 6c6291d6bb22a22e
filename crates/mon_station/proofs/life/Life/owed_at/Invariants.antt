use Rattle.std.proofs.Common.{◌-◌, length}
use Rattle.mon_window.specs.Top.{rising}
use Rattle.mon_station.specs.State.{owed_to, state_of}
use Rattle.mon_station.proofs.Past.{IsPast}
use Rattle.mon_station.proofs.life.Life.owed_at.Given as goal

-- this many were counted, up to this one
abbrev pub invariant-loop-sample : goal.invariant-loop-sample
invariant-loop-sample l = IsPast (rising (owed_to (state_of l.self) l.slot l.instance)) l.count l.after

abbrev pub decreases-loop-sample : goal.decreases-loop-sample
decreases-loop-sample l = length (rising (owed_to (state_of l.self) l.slot l.instance)) - l.count
