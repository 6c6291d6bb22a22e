use Rattle.std.proofs.Common.{◌+◌, max, length, sym, subst, List, ℕ}
use Rattle.mon_disk.specs.Disk.{IsTorn, IsWritten, Only}
use Rattle.mon_disk.specs.Outcomes.{torn_none}
use Rattle.mon_disk.proofs.Moments.{began, wrote, synced}
use Rattle.mon_disk.proofs.Gates.{on_ok_map, on_ok_both}
use Rattle.mon_disk.proofs.file.put_down.Goals as goal

pub returns-then-calls-eq0-clause-any_moment : goal.returns-then-calls-eq0-clause-any_moment
returns-then-calls-eq0-clause-any_moment g c = λ h.
    let d = c.args.disk.now in
    let file = g.D.Disk.seen d in
    let size = max (length file) (c.args.at + length c.args.octets.now) in
    began g.D.Disk.moment g.D.Disk.left_since g.D.Disk.may_leave d (IsTorn c.args.at c.args.octets.now size file) (λ f left. g.met.D.Disk.only_now d f h left)
    (λ f left. subst (IsTorn c.args.at c.args.octets.now size file) (sym (c.requires.durable h f left)) (torn_none c.args.at size c.args.octets.now file))

pub returns-in_err-write_at-clause-any_moment : goal.returns-in_err-write_at-clause-any_moment
returns-in_err-write_at-clause-any_moment g c = λ h.
    let file = g.D.Disk.seen c.args.disk.now in
    let size = max (length file) (c.args.at + length c.args.octets.now) in
    let P = IsTorn c.args.at c.args.octets.now size file in
    wrote g.D.Disk.moment g.D.Disk.left_since g.D.Disk.may_leave c.args.disk.now c.write_at.new.self c.write_at.new.self file P (IsTorn c.args.at c.args.octets.now size)
    (c.requires.durable h) (λ f left. g.met.D.Disk.only_now c.args.disk.now f h left) (torn_none c.args.at size c.args.octets.now file) (λ f torn. torn)
    (c.write_at.ensures.crash h) (c.write_at.ensures.time h)

pub returns-then-calls-eq1-clause-any_moment : goal.returns-then-calls-eq1-clause-any_moment
returns-then-calls-eq1-clause-any_moment g c = λ h.
    let file = g.D.Disk.seen c.args.disk.now in
    let size = max (length file) (c.args.at + length c.args.octets.now) in
    let P = IsTorn c.args.at c.args.octets.now size file in
    wrote g.D.Disk.moment g.D.Disk.left_since g.D.Disk.may_leave c.args.disk.now c.write_at.new.self c.write_at.new.self file P (IsTorn c.args.at c.args.octets.now size)
    (c.requires.durable h) (λ f left. g.met.D.Disk.only_now c.args.disk.now f h left) (torn_none c.args.at size c.args.octets.now file) (λ f torn. torn)
    (c.write_at.ensures.crash h) (c.write_at.ensures.time h)

pub returns-clause-any_moment : goal.returns-clause-any_moment
returns-clause-any_moment g c = λ h.
    let file = g.D.Disk.seen c.args.disk.now in
    let size = max (length file) (c.args.at + length c.args.octets.now) in
    let P = IsTorn c.args.at c.args.octets.now size file in
    let mid = c.write_at.ensures.honest.0 h in
    synced g.D.Disk.moment g.D.Disk.left_since g.D.Disk.may_leave c.args.disk.now c.write_at.new.self c.sync.new.self file P (IsTorn c.args.at c.args.octets.now size)
    (c.requires.durable h) (λ f left. g.met.D.Disk.only_now c.args.disk.now f h left) (torn_none c.args.at size c.args.octets.now file) (λ f torn. torn)
    (c.write_at.ensures.crash h) (c.write_at.ensures.time h) (c.sync.ensures.crash mid) (c.sync.ensures.time mid)

pub returns-clause-written : goal.returns-clause-written
returns-clause-written g c = λ h some.
    let mid = c.write_at.ensures.honest.0 h in
    on_ok_map c.sync.result _ _
    (λ same. subst (IsWritten (g.D.Disk.seen c.args.disk.now) c.args.at c.args.octets.now) (sym same) (c.in_ok-write_at.ensures.written h))
    (c.sync.ensures.seen mid)

pub returns-clause-durable : goal.returns-clause-durable
returns-clause-durable g c = λ h both.
    let mid = c.write_at.ensures.honest.0 h in
    on_ok_both c.sync.result _ _ _
    (λ same only. subst (λ (f : List ℕ). Only f (g.D.Disk.may_leave c.sync.new.self)) (sym same) only)
    (c.sync.ensures.seen mid) (c.sync.ensures.durable mid)
