use Rattle.mon_disk.specs.History.{last_disk, may_find}
use Rattle.mon_disk.proofs.Stopped.{left_by, honest_after, finds_this, finds_undamaged}
use Rattle.mon_disk.proofs.laws.stops.Goals as goal

pub returns-clause-left : goal.returns-clause-left
returns-clause-left g c = left_by g.D.Disk.is_honest g.D.Disk.seen g.D.Disk.may_leave g.D.Disk.moment g.D.Disk.left_since g.met.D.Disk.counts_now g.met.D.Disk.seen_now

pub returns-clause-found : goal.returns-clause-found
returns-clause-found g c = λ first history bodies honest has is body finds.
    let disk = last_disk first history in
    finds_this (may_find bodies history) body (g.D.Disk.seen disk) finds
    (left_by g.D.Disk.is_honest g.D.Disk.seen g.D.Disk.may_leave g.D.Disk.moment g.D.Disk.left_since g.met.D.Disk.counts_now g.met.D.Disk.seen_now first history bodies honest has is (g.D.Disk.seen disk)
    (g.met.D.Disk.seen_now disk (honest_after g.D.Disk.is_honest g.D.Disk.seen g.D.Disk.may_leave g.D.Disk.moment g.D.Disk.left_since g.met.D.Disk.counts_now g.met.D.Disk.seen_now first history bodies honest is)))

pub returns-clause-undamaged : goal.returns-clause-undamaged
returns-clause-undamaged g c = λ first history bodies honest has is.
    let disk = last_disk first history in
    finds_undamaged (may_find bodies history) (g.D.Disk.seen disk)
    (left_by g.D.Disk.is_honest g.D.Disk.seen g.D.Disk.may_leave g.D.Disk.moment g.D.Disk.left_since g.met.D.Disk.counts_now g.met.D.Disk.seen_now first history bodies honest has is (g.D.Disk.seen disk)
    (g.met.D.Disk.seen_now disk (honest_after g.D.Disk.is_honest g.D.Disk.seen g.D.Disk.may_leave g.D.Disk.moment g.D.Disk.left_since g.met.D.Disk.counts_now g.met.D.Disk.seen_now first history bodies honest is)))
