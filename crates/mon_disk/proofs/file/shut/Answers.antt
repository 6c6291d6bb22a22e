use Rattle.std.proofs.Common.{None, sym, subst, lit<, List, ℕ}
use Rattle.mon_disk.specs.Disk.{Only}
use Rattle.mon_disk.specs.File.{HoldsEither, IsShut}
use Rattle.mon_disk.specs.declared.file.TheConstants.{SLOT_SIZE}
use Rattle.mon_disk.proofs.Gates.{closed, on_ok_map, on_ok_both}
use Rattle.mon_disk.proofs.Held.{not_shut, shut_by}
use Rattle.mon_disk.proofs.Moments.{began, goes}
use Rattle.mon_disk.proofs.file.shut.Goals as goal

pub returns-in_err-write_at-clause-any_moment : goal.returns-in_err-write_at-clause-any_moment
returns-in_err-write_at-clause-any_moment g c = λ h.
    let D = g.D.Disk in
    let d = c.args.disk.now in
    let P = IsShut SLOT_SIZE c.args.slot (D.may_leave d) in
    goes D.moment D.left_since D.may_leave d d c.write_at.new.self P
    (began D.moment D.left_since D.may_leave d P (λ f left. g.met.D.Disk.only_now d f h left) (not_shut SLOT_SIZE c.args.slot (D.may_leave d) (c.requires.whole h)))
    (c.write_at.ensures.time h)
    (shut_by SLOT_SIZE (lit< tt) c.args.slot (D.may_leave d) (D.may_leave c.write_at.new.self) (D.seen d) c.offset.result c.offset.ensures (c.requires.whole h) (g.met.D.Disk.seen_now d h) (c.write_at.ensures.crash h))

pub returns-clause-any_moment : goal.returns-clause-any_moment
returns-clause-any_moment g c = λ h.
    let D = g.D.Disk in
    let d = c.args.disk.now in
    let P = IsShut SLOT_SIZE c.args.slot (D.may_leave d) in
    let mid = c.write_at.ensures.honest.0 h in
    let by = shut_by SLOT_SIZE (lit< tt) c.args.slot (D.may_leave d) (D.may_leave c.write_at.new.self) (D.seen d) c.offset.result c.offset.ensures (c.requires.whole h) (g.met.D.Disk.seen_now d h) (c.write_at.ensures.crash h) in
    goes D.moment D.left_since D.may_leave d c.write_at.new.self c.sync.new.self P
    (goes D.moment D.left_since D.may_leave d d c.write_at.new.self P
    (began D.moment D.left_since D.may_leave d P (λ f left. g.met.D.Disk.only_now d f h left) (not_shut SLOT_SIZE c.args.slot (D.may_leave d) (c.requires.whole h)))
    (c.write_at.ensures.time h) by)
    (c.sync.ensures.time mid) (λ f left. by f (c.sync.ensures.crash mid f left))

pub returns-clause-closed : goal.returns-clause-closed
returns-clause-closed g c = λ h.
    let D = g.D.Disk in
    let d = c.args.disk.now in
    let mid = c.write_at.ensures.honest.0 h in
    on_ok_map c.sync.result _ _
    (λ same. subst (HoldsEither SLOT_SIZE c.args.slot (D.seen d) None None) (sym same)
    (closed SLOT_SIZE (lit< tt) c.args.slot (D.seen d) (D.seen c.write_at.new.self) (c.requires.whole h (D.seen d) (g.met.D.Disk.seen_now d h)) c.offset.result c.offset.ensures (c.in_ok-write_at.ensures.written h)))
    (c.sync.ensures.seen mid)

pub returns-clause-durable : goal.returns-clause-durable
returns-clause-durable g c = λ h.
    let mid = c.write_at.ensures.honest.0 h in
    on_ok_both c.sync.result _ _ _
    (λ same only. subst (λ (f : List ℕ). Only f (g.D.Disk.may_leave c.sync.new.self)) (sym same) only)
    (c.sync.ensures.seen mid) (c.sync.ensures.durable mid)
