use Rattle.std.proofs.Common.{sym, subst}
use Rattle.mon_disk.specs.Disk.{LeavesSince}
use Rattle.mon_disk.specs.Kept.{device_of, last_body}
use Rattle.mon_disk.proofs.Promised.{weaker}
use Rattle.mon_station.specs.Saved.{FindsRunning}
use Rattle.mon_station.specs.State.{state_of}
use Rattle.mon_station.proofs.Kept.{only_left}
use Rattle.mon_station.proofs.station.Station.settle.Goals as goal

pub returns-in-Ok-clause-any_moment : goal.returns-in-Ok-clause-any_moment
returns-in-Ok-clause-any_moment g c = λ honest.
    let D = g.D.Disk in
    let d = device_of c.args.keeper in
    weaker D.moment D.left_since D.may_leave d _ _ _ (only_left (D.may_leave d) (last_body c.args.keeper) (state_of c.args.life) (D.seen d) (g.met.D.Disk.seen_now d honest) (c.requires.kept honest)) (c.in-Ok.ensures.any_moment honest)

pub returns-in-Err-clause-any_moment_err : goal.returns-in-Err-clause-any_moment_err
returns-in-Err-clause-any_moment_err g c = λ honest.
    let D = g.D.Disk in
    let d = device_of c.args.keeper in
    let s = state_of c.args.life in
    subst (λ new. LeavesSince D.moment D.left_since d new (FindsRunning (D.may_leave d) s)) (sym c.into_disk.ensures)
    (weaker D.moment D.left_since D.may_leave d (device_of c.save.new.self.keeper) _ _ (only_left (D.may_leave d) (last_body c.args.keeper) s (D.seen d) (g.met.D.Disk.seen_now d honest) (c.requires.kept honest)) (c.in-Err.ensures.any_moment honest))
