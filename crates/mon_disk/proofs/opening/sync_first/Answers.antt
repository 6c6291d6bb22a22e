use Rattle.mon_disk.proofs.Gates.{on_ok_map}
use Rattle.mon_disk.proofs.Heads.{read_once}
use Rattle.mon_disk.proofs.Moments.{began, goes}
use Rattle.mon_disk.proofs.Opened.{opened_fewer}
use Rattle.mon_disk.proofs.opening.sync_first.Goals as goal

pub returns-clause-unchanged : goal.returns-clause-unchanged
returns-clause-unchanged g c = λ h.
    on_ok_map c.sync.result _ _
    (λ same. read_once g.D.Disk.seen g.D.Disk.may_leave g.D.Disk.moment g.D.Disk.left_since c.args.disk.now c.sync.new.self
    (λ f left. g.met.D.Disk.only_now c.args.disk.now f h left) same (c.sync.ensures.crash h) (c.sync.ensures.time h))
    (c.sync.ensures.seen h)

pub returns-clause-opening : goal.returns-clause-opening
returns-clause-opening g c = λ h.
    let d = c.args.disk.now in
    let before = g.D.Disk.may_leave d in
    let fewer = c.sync.ensures.crash h in
    opened_fewer g.D.Disk.seen g.D.Disk.may_leave g.D.Disk.moment g.D.Disk.left_since d c.sync.new.self fewer
    (goes g.D.Disk.moment g.D.Disk.left_since g.D.Disk.may_leave d d c.sync.new.self before
    (began g.D.Disk.moment g.D.Disk.left_since g.D.Disk.may_leave d before (λ f left. g.met.D.Disk.only_now d f h left) (λ f left. left))
    (c.sync.ensures.time h) fewer)
