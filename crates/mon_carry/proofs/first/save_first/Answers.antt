use Rattle.std.proofs.Common.{ℕ, Option, Vec, Global, sym, subst, ap, ◌∙◌}
use Rattle.std.specs.Prelude.{option_map}
use Rattle.mon_disk.specs.Disk.{LeavesSince}
use Rattle.mon_disk.specs.Kept.{device_of, last_generation}
use Rattle.mon_carry.specs.Fault.{IsRefused}
use Rattle.mon_carry.specs.Files.{FindsFirst}
use Rattle.mon_carry.proofs.Stops.{as_whole, if_err, if_ok, not_refused, only_opened, save_fault, then_saved}
use Rattle.mon_carry.proofs.first.save_first.Goals as goal

pub returns-in-Ok-default-None-clause-any_moment : goal.returns-in-Ok-default-None-clause-any_moment
returns-in-Ok-default-None-clause-any_moment g c = λ h.
    let D = g.D.Disk in
    let mid = device_of c.in-Ok-default-None.keeper in
    let honest = c.in-Ok-default-None.ensures.honest.0 h in
    if_ok c.put_first.result _ _ (c.put_first.ensures.any_moment honest) (λ d saving.
    then_saved c.args.board.now c.args.incarnation D.seen D.may_leave D.moment D.left_since c.args.disk mid (c.in-Ok-default-None.ensures.opening h)
    (λ t f le left. g.met.D.Disk.counts_now mid t f honest le left) d saving)

pub returns-in-Ok-default-None-clause-any_moment_err : goal.returns-in-Ok-default-None-clause-any_moment_err
returns-in-Ok-default-None-clause-any_moment_err g c = λ h.
    let D = g.D.Disk in
    let mid = device_of c.in-Ok-default-None.keeper in
    let honest = c.in-Ok-default-None.ensures.honest.0 h in
    if_err c.put_first.result _ _ (c.put_first.ensures.any_moment_err honest) (λ e saving.
    then_saved c.args.board.now c.args.incarnation D.seen D.may_leave D.moment D.left_since c.args.disk mid (c.in-Ok-default-None.ensures.opening h)
    (λ t f le left. g.met.D.Disk.counts_now mid t f honest le left) e.1 saving)

pub returns-in-Ok-default-None-clause-refused : goal.returns-in-Ok-default-None-clause-refused
returns-in-Ok-default-None-clause-refused g c = λ h.
    if_err c.put_first.result _ _ c.put_first.ensures.fault (λ e is refused. absurd (not_refused (last_generation c.in-Ok-default-None.keeper) e.0 is refused))

pub returns-in-Ok-default-None-clause-found_still : goal.returns-in-Ok-default-None-clause-found_still
returns-in-Ok-default-None-clause-found_still g c = λ h.
    if_err c.put_first.result _ _ c.put_first.ensures.fault
    (λ e is refused. absurd (not_refused (last_generation c.in-Ok-default-None.keeper) e.0 is (subst IsRefused (sym refused) tt)))

pub returns-in-Ok-default-None-clause-fault : goal.returns-in-Ok-default-None-clause-fault
returns-in-Ok-default-None-clause-fault g c = λ h.
    let file = g.D.Disk.seen c.args.disk in
    if_err c.put_first.result _ _ c.put_first.ensures.fault (λ e is.
    save_fault file (last_generation c.in-Ok-default-None.keeper) e.0
    ((c.in-Ok-default-None.ensures.found h).body_is ∙ ap (λ (b : Option (Vec ℕ Global)). option_map (λ (v : Vec ℕ Global). v.items) b) c.in-Ok-default-None.field-0-1-is)
    (c.in-Ok-default-None.ensures.generation h) is)

pub returns-in-Ok-default-Some-clause-any_moment_err : goal.returns-in-Ok-default-Some-clause-any_moment_err
returns-in-Ok-default-Some-clause-any_moment_err g c = λ h.
    let D = g.D.Disk in
    subst (λ new. LeavesSince D.moment D.left_since c.args.disk new (FindsFirst (D.may_leave c.args.disk) c.args.board.now c.args.incarnation)) (sym c.into_disk.ensures)
    (only_opened c.args.board.now c.args.incarnation D.seen D.may_leave D.moment D.left_since c.args.disk (device_of c.in-Ok-default-Some.keeper) (c.in-Ok-default-Some.ensures.opening h))

pub returns-in-Ok-default-None-clause-whole : goal.returns-in-Ok-default-None-clause-whole
returns-in-Ok-default-None-clause-whole g c = λ h none.
    let D = g.D.Disk in
    if_ok c.put_first.result _ _ (returns-in-Ok-default-None-clause-any_moment g c h) (λ d left.
    as_whole c.args.board.now c.args.incarnation D.seen D.may_leave D.moment D.left_since c.args.disk (device_of c.in-Ok-default-None.keeper) (c.in-Ok-default-None.ensures.opening h) none d left)

pub returns-in-Ok-default-None-clause-whole_err : goal.returns-in-Ok-default-None-clause-whole_err
returns-in-Ok-default-None-clause-whole_err g c = λ h none.
    let D = g.D.Disk in
    if_err c.put_first.result _ _ (returns-in-Ok-default-None-clause-any_moment_err g c h) (λ e left.
    as_whole c.args.board.now c.args.incarnation D.seen D.may_leave D.moment D.left_since c.args.disk (device_of c.in-Ok-default-None.keeper) (c.in-Ok-default-None.ensures.opening h) none e.1 left)

pub returns-in-Ok-default-Some-clause-whole_err : goal.returns-in-Ok-default-Some-clause-whole_err
returns-in-Ok-default-Some-clause-whole_err g c = λ h none.
    let D = g.D.Disk in
    as_whole c.args.board.now c.args.incarnation D.seen D.may_leave D.moment D.left_since c.args.disk (device_of c.in-Ok-default-Some.keeper) (c.in-Ok-default-Some.ensures.opening h) none _
    (returns-in-Ok-default-Some-clause-any_moment_err g c h)

pub returns-clause-whole_err : goal.returns-clause-whole_err
returns-clause-whole_err g c = λ h none.
    let D = g.D.Disk in
    let opened = c.in-Err.ensures.opening_err h in
    as_whole c.args.board.now c.args.incarnation D.seen D.may_leave D.moment D.left_since c.args.disk c.in-Err.error.disk opened none c.in-Err.error.disk
    (only_opened c.args.board.now c.args.incarnation D.seen D.may_leave D.moment D.left_since c.args.disk c.in-Err.error.disk opened)
