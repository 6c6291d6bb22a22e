use Rattle.std.proofs.Common.{arith, ◌≡◌, ◌<◌, ◌≤◌, true, ⊎_elim, Some, refl, sym, subst, lit<}
use Rattle.std.proofs.lemmas.Bool.{cases_lt}
use Rattle.mon_disk.specs.File.{save_of, found, FindsIn}
use Rattle.mon_disk.specs.Keeper.{is_newest, spare}
use Rattle.mon_disk.specs.declared.file.TheConstants.{SLOT_SIZE}
use Rattle.mon_disk.proofs.Gates.{on_ok, on_ok_map, on_ok_both}
use Rattle.mon_disk.proofs.Held.{by_gate, by_slot, itself, steps_beside}
use Rattle.mon_disk.proofs.Saves.{next_of, shown_finds, shown_newest}
use Rattle.mon_disk.proofs.Steps.{early, late, stays_closed, run_close, run_fill, run_show, closed_now, filled_now}
use Rattle.mon_disk.proofs.saving.put_spare.Goals as goal

pub returns-in_err-close-clause-any_moment : goal.returns-in_err-close-clause-any_moment
returns-in_err-close-clause-any_moment g c = λ h.
    let file = g.D.Disk.seen c.args.disk.now in
    let octets = c.args.octets.now in
    let slot = c.spare_slot-slot.result in
    let next = next_of SLOT_SIZE c.args.newest file octets (g.D.Disk.may_leave c.args.disk.now) (save_of octets).generation slot (c.requires.kept h) c.spare_slot-slot.ensures c.requires.next c.requires.alone refl c.requires.fits in
    run_close g.D.Disk.moment g.D.Disk.left_since g.D.Disk.may_leave SLOT_SIZE (lit< tt) c.args.newest file octets (save_of octets).generation slot next c.args.disk.now c.close.new.disk (c.close.ensures.any_moment h)

pub returns-then-calls-le2-clause-any_moment : goal.returns-then-calls-le2-clause-any_moment
returns-then-calls-le2-clause-any_moment g c = λ h.
    let file = g.D.Disk.seen c.args.disk.now in
    let octets = c.args.octets.now in
    let slot = c.spare_slot-slot.result in
    let next = next_of SLOT_SIZE c.args.newest file octets (g.D.Disk.may_leave c.args.disk.now) (save_of octets).generation slot (c.requires.kept h) c.spare_slot-slot.ensures c.requires.next c.requires.alone refl c.requires.fits in
    run_close g.D.Disk.moment g.D.Disk.left_since g.D.Disk.may_leave SLOT_SIZE (lit< tt) c.args.newest file octets (save_of octets).generation slot next c.args.disk.now c.close.new.disk (c.close.ensures.any_moment h)

pub returns-then-calls-le2-clause-seen : goal.returns-then-calls-le2-clause-seen
returns-then-calls-le2-clause-seen g c = λ h.
    let file = g.D.Disk.seen c.args.disk.now in
    let octets = c.args.octets.now in
    let slot = c.spare_slot-slot.result in
    let next = next_of SLOT_SIZE c.args.newest file octets (g.D.Disk.may_leave c.args.disk.now) (save_of octets).generation slot (c.requires.kept h) c.spare_slot-slot.ensures c.requires.next c.requires.alone refl c.requires.fits in
    let h1 = c.close.ensures.honest.0 h in
    let now = g.D.Disk.seen c.close.new.disk in
    early SLOT_SIZE 5 c.args.calls (found SLOT_SIZE file) (Some (save_of octets)) now (omega (arith, c.if-calls-le2.true))
    (closed_now g.D.Disk.moment g.D.Disk.left_since g.D.Disk.may_leave SLOT_SIZE (lit< tt) c.args.newest file octets (save_of octets).generation slot next c.args.disk.now c.close.new.disk (λ t f le left. g.met.D.Disk.counts_now c.close.new.disk t f h1 le left) (c.close.ensures.any_moment h) now (g.met.D.Disk.seen_now c.close.new.disk h1))

pub returns-then-calls-le2-clause-synced : goal.returns-then-calls-le2-clause-synced
returns-then-calls-le2-clause-synced g c = λ h.
    let file = g.D.Disk.seen c.args.disk.now in
    let octets = c.args.octets.now in
    let slot = c.spare_slot-slot.result in
    let next = next_of SLOT_SIZE c.args.newest file octets (g.D.Disk.may_leave c.args.disk.now) (save_of octets).generation slot (c.requires.kept h) c.spare_slot-slot.ensures c.requires.next c.requires.alone refl c.requires.fits in
    let h1 = c.close.ensures.honest.0 h in
    let now = g.D.Disk.synced c.close.new.disk in
    early SLOT_SIZE 6 c.args.calls (found SLOT_SIZE file) (Some (save_of octets)) now (omega (arith, c.if-calls-le2.true))
    (closed_now g.D.Disk.moment g.D.Disk.left_since g.D.Disk.may_leave SLOT_SIZE (lit< tt) c.args.newest file octets (save_of octets).generation slot next c.args.disk.now c.close.new.disk (λ t f le left. g.met.D.Disk.counts_now c.close.new.disk t f h1 le left) (c.close.ensures.any_moment h) now (g.met.D.Disk.synced_now c.close.new.disk h1))

pub returns-in_err-fill-clause-any_moment : goal.returns-in_err-fill-clause-any_moment
returns-in_err-fill-clause-any_moment g c = λ h.
    let file = g.D.Disk.seen c.args.disk.now in
    let octets = c.args.octets.now in
    let slot = c.spare_slot-slot.result in
    let next = next_of SLOT_SIZE c.args.newest file octets (g.D.Disk.may_leave c.args.disk.now) (save_of octets).generation slot (c.requires.kept h) c.spare_slot-slot.ensures c.requires.next c.requires.alone refl c.requires.fits in
    let h1 = c.close.ensures.honest.0 h in
    let first = run_close g.D.Disk.moment g.D.Disk.left_since g.D.Disk.may_leave SLOT_SIZE (lit< tt) c.args.newest file octets (save_of octets).generation slot next c.args.disk.now c.close.new.disk (c.close.ensures.any_moment h) in
    let closed = c.in_ok-close.ensures.closed h (omega (arith, c.if-calls-le2.false)) in
    let f1 = g.D.Disk.seen c.close.new.disk in
    run_fill g.D.Disk.moment g.D.Disk.left_since g.D.Disk.may_leave SLOT_SIZE (lit< tt) c.args.newest file octets (save_of octets).generation slot next c.args.disk.now c.close.new.disk c.fill.new.disk f1 first closed (c.fill.ensures.any_moment h1)

pub returns-then-calls-le4-clause-any_moment : goal.returns-then-calls-le4-clause-any_moment
returns-then-calls-le4-clause-any_moment g c = λ h.
    let file = g.D.Disk.seen c.args.disk.now in
    let octets = c.args.octets.now in
    let slot = c.spare_slot-slot.result in
    let next = next_of SLOT_SIZE c.args.newest file octets (g.D.Disk.may_leave c.args.disk.now) (save_of octets).generation slot (c.requires.kept h) c.spare_slot-slot.ensures c.requires.next c.requires.alone refl c.requires.fits in
    let h1 = c.close.ensures.honest.0 h in
    let first = run_close g.D.Disk.moment g.D.Disk.left_since g.D.Disk.may_leave SLOT_SIZE (lit< tt) c.args.newest file octets (save_of octets).generation slot next c.args.disk.now c.close.new.disk (c.close.ensures.any_moment h) in
    let closed = c.in_ok-close.ensures.closed h (omega (arith, c.if-calls-le2.false)) in
    let f1 = g.D.Disk.seen c.close.new.disk in
    run_fill g.D.Disk.moment g.D.Disk.left_since g.D.Disk.may_leave SLOT_SIZE (lit< tt) c.args.newest file octets (save_of octets).generation slot next c.args.disk.now c.close.new.disk c.fill.new.disk f1 first closed (c.fill.ensures.any_moment h1)

pub returns-then-calls-le4-clause-seen : goal.returns-then-calls-le4-clause-seen
returns-then-calls-le4-clause-seen g c = λ h.
    let file = g.D.Disk.seen c.args.disk.now in
    let octets = c.args.octets.now in
    let slot = c.spare_slot-slot.result in
    let next = next_of SLOT_SIZE c.args.newest file octets (g.D.Disk.may_leave c.args.disk.now) (save_of octets).generation slot (c.requires.kept h) c.spare_slot-slot.ensures c.requires.next c.requires.alone refl c.requires.fits in
    let h1 = c.close.ensures.honest.0 h in
    let h2 = c.fill.ensures.honest.0 h1 in
    let closed = c.in_ok-close.ensures.closed h (omega (arith, c.if-calls-le2.false)) in
    let f1 = g.D.Disk.seen c.close.new.disk in
    let now = g.D.Disk.seen c.fill.new.disk in
    early SLOT_SIZE 5 c.args.calls (found SLOT_SIZE file) (Some (save_of octets)) now (omega (arith, c.if-calls-le4.true))
    (filled_now g.D.Disk.moment g.D.Disk.left_since g.D.Disk.may_leave SLOT_SIZE (lit< tt) c.args.newest file octets (save_of octets).generation slot next c.close.new.disk c.fill.new.disk f1 (λ t f le left. g.met.D.Disk.counts_now c.fill.new.disk t f h2 le left) closed (c.fill.ensures.any_moment h1) now (g.met.D.Disk.seen_now c.fill.new.disk h2))

pub returns-then-calls-le4-clause-synced : goal.returns-then-calls-le4-clause-synced
returns-then-calls-le4-clause-synced g c = λ h.
    let file = g.D.Disk.seen c.args.disk.now in
    let octets = c.args.octets.now in
    let slot = c.spare_slot-slot.result in
    let next = next_of SLOT_SIZE c.args.newest file octets (g.D.Disk.may_leave c.args.disk.now) (save_of octets).generation slot (c.requires.kept h) c.spare_slot-slot.ensures c.requires.next c.requires.alone refl c.requires.fits in
    let h1 = c.close.ensures.honest.0 h in
    let h2 = c.fill.ensures.honest.0 h1 in
    let closed = c.in_ok-close.ensures.closed h (omega (arith, c.if-calls-le2.false)) in
    let f1 = g.D.Disk.seen c.close.new.disk in
    let now = g.D.Disk.synced c.fill.new.disk in
    early SLOT_SIZE 6 c.args.calls (found SLOT_SIZE file) (Some (save_of octets)) now (omega (arith, c.if-calls-le4.true))
    (filled_now g.D.Disk.moment g.D.Disk.left_since g.D.Disk.may_leave SLOT_SIZE (lit< tt) c.args.newest file octets (save_of octets).generation slot next c.close.new.disk c.fill.new.disk f1 (λ t f le left. g.met.D.Disk.counts_now c.fill.new.disk t f h2 le left) closed (c.fill.ensures.any_moment h1) now (g.met.D.Disk.synced_now c.fill.new.disk h2))

pub show-requires-clause-closed : goal.show-requires-clause-closed
show-requires-clause-closed g c = λ h2.
    let h1 = c.fill.ensures.honest.1 h2 in
    stays_closed g.D.Disk.moment g.D.Disk.left_since g.D.Disk.may_leave SLOT_SIZE c.spare_slot-slot.result (g.D.Disk.seen c.close.new.disk) c.close.new.disk c.fill.new.disk (λ t f le left. g.met.D.Disk.counts_now c.fill.new.disk t f h2 le left)
    (c.fill.ensures.any_moment h1) (g.D.Disk.seen c.fill.new.disk) (g.met.D.Disk.seen_now c.fill.new.disk h2)

pub returns-clause-any_moment : goal.returns-clause-any_moment
returns-clause-any_moment g c = λ h.
    let file = g.D.Disk.seen c.args.disk.now in
    let octets = c.args.octets.now in
    let slot = c.spare_slot-slot.result in
    let next = next_of SLOT_SIZE c.args.newest file octets (g.D.Disk.may_leave c.args.disk.now) (save_of octets).generation slot (c.requires.kept h) c.spare_slot-slot.ensures c.requires.next c.requires.alone refl c.requires.fits in
    let h1 = c.close.ensures.honest.0 h in
    let h2 = c.fill.ensures.honest.0 h1 in
    let first = run_close g.D.Disk.moment g.D.Disk.left_since g.D.Disk.may_leave SLOT_SIZE (lit< tt) c.args.newest file octets (save_of octets).generation slot next c.args.disk.now c.close.new.disk (c.close.ensures.any_moment h) in
    let closed = c.in_ok-close.ensures.closed h (omega (arith, c.if-calls-le2.false)) in
    let f1 = g.D.Disk.seen c.close.new.disk in
    let second = run_fill g.D.Disk.moment g.D.Disk.left_since g.D.Disk.may_leave SLOT_SIZE (lit< tt) c.args.newest file octets (save_of octets).generation slot next c.args.disk.now c.close.new.disk c.fill.new.disk f1 first closed (c.fill.ensures.any_moment h1) in
    let filled = c.in_ok-fill.ensures.filled h1 (omega (arith, c.if-calls-le4.false)) in
    let f2 = g.D.Disk.seen c.fill.new.disk in
    run_show g.D.Disk.moment g.D.Disk.left_since g.D.Disk.may_leave SLOT_SIZE (lit< tt) c.args.newest file octets (save_of octets).generation slot next c.args.disk.now c.fill.new.disk c.show.new.disk f1 f2 second closed filled (c.show.ensures.any_moment h2)

pub returns-clause-seen : goal.returns-clause-seen
returns-clause-seen g c = λ h.
    let file = g.D.Disk.seen c.args.disk.now in
    let octets = c.args.octets.now in
    let slot = c.spare_slot-slot.result in
    let next = next_of SLOT_SIZE c.args.newest file octets (g.D.Disk.may_leave c.args.disk.now) (save_of octets).generation slot (c.requires.kept h) c.spare_slot-slot.ensures c.requires.next c.requires.alone refl c.requires.fits in
    let h1 = c.close.ensures.honest.0 h in
    let h2 = c.fill.ensures.honest.0 h1 in
    let closed = c.in_ok-close.ensures.closed h (omega (arith, c.if-calls-le2.false)) in
    let f1 = g.D.Disk.seen c.close.new.disk in
    let filled = c.in_ok-fill.ensures.filled h1 (omega (arith, c.if-calls-le4.false)) in
    let f2 = g.D.Disk.seen c.fill.new.disk in
    let now = g.D.Disk.seen c.show.new.disk in
    on_ok_map c.show.result _ _
    (λ shown. late SLOT_SIZE 5 c.args.calls (found SLOT_SIZE file) (Some (save_of octets)) now (omega (arith, c.if-calls-le4.false))
    (shown_finds SLOT_SIZE (lit< tt) c.args.newest file octets (save_of octets).generation slot next f1 f2 closed filled now shown))
    (c.show.ensures.shown h2 (omega (arith, c.if-calls-le4.false)))

pub returns-clause-synced : goal.returns-clause-synced
returns-clause-synced g c = λ h.
    let file = g.D.Disk.seen c.args.disk.now in
    let octets = c.args.octets.now in
    let slot = c.spare_slot-slot.result in
    let next = next_of SLOT_SIZE c.args.newest file octets (g.D.Disk.may_leave c.args.disk.now) (save_of octets).generation slot (c.requires.kept h) c.spare_slot-slot.ensures c.requires.next c.requires.alone refl c.requires.fits in
    let h1 = c.close.ensures.honest.0 h in
    let h2 = c.fill.ensures.honest.0 h1 in
    let closed = c.in_ok-close.ensures.closed h (omega (arith, c.if-calls-le2.false)) in
    let f1 = g.D.Disk.seen c.close.new.disk in
    let filled = c.in_ok-fill.ensures.filled h1 (omega (arith, c.if-calls-le4.false)) in
    let f2 = g.D.Disk.seen c.fill.new.disk in
    let h3 = c.show.ensures.honest.0 h2 in
    let now = g.D.Disk.synced c.show.new.disk in
    let before = g.D.Disk.synced c.fill.new.disk in
    ⊎_elim
    (λ (less : c.args.calls < 6). on_ok c.show.result _
    (early SLOT_SIZE 6 c.args.calls (found SLOT_SIZE file) (Some (save_of octets)) now less
    (subst (FindsIn SLOT_SIZE (found SLOT_SIZE file)) (sym (c.show.ensures.unsynced h2 (omega (arith, less))))
    (filled_now g.D.Disk.moment g.D.Disk.left_since g.D.Disk.may_leave SLOT_SIZE (lit< tt) c.args.newest file octets (save_of octets).generation slot next c.close.new.disk c.fill.new.disk f1 (λ t f le left. g.met.D.Disk.counts_now c.fill.new.disk t f h2 le left) closed (c.fill.ensures.any_moment h1) before (g.met.D.Disk.synced_now c.fill.new.disk h2)))))
    (λ (all : 6 ≤ c.args.calls). on_ok_both c.show.result _ _ _
    (λ shown durable. late SLOT_SIZE 6 c.args.calls (found SLOT_SIZE file) (Some (save_of octets)) now all
    (subst (FindsIn SLOT_SIZE (Some (save_of octets))) (sym (durable now (g.met.D.Disk.synced_now c.show.new.disk h3)))
    (shown_finds SLOT_SIZE (lit< tt) c.args.newest file octets (save_of octets).generation slot next f1 f2 closed filled (g.D.Disk.seen c.show.new.disk) shown)))
    (c.show.ensures.shown h2 (omega (arith, all))) (c.show.ensures.durable h2 (omega (arith, all))))
    (cases_lt c.args.calls 6)

pub returns-clause-newest : goal.returns-clause-newest
returns-clause-newest g c = λ h all.
    let file = g.D.Disk.seen c.args.disk.now in
    let octets = c.args.octets.now in
    let slot = c.spare_slot-slot.result in
    let next = next_of SLOT_SIZE c.args.newest file octets (g.D.Disk.may_leave c.args.disk.now) (save_of octets).generation slot (c.requires.kept h) c.spare_slot-slot.ensures c.requires.next c.requires.alone refl c.requires.fits in
    let h1 = c.close.ensures.honest.0 h in
    let h2 = c.fill.ensures.honest.0 h1 in
    let closed = c.in_ok-close.ensures.closed h (omega (arith, c.if-calls-le2.false)) in
    let f1 = g.D.Disk.seen c.close.new.disk in
    let filled = c.in_ok-fill.ensures.filled h1 (omega (arith, c.if-calls-le4.false)) in
    let f2 = g.D.Disk.seen c.fill.new.disk in
    let now = g.D.Disk.seen c.show.new.disk in
    on_ok_map c.show.result _ _
    (λ shown. subst (λ k. is_newest SLOT_SIZE (Some (k, (save_of octets).generation)) now ≡ true) c.spare_slot-slot.ensures
    (shown_newest SLOT_SIZE (lit< tt) c.args.newest file octets (save_of octets).generation slot next f1 f2 closed filled now shown))
    (c.show.ensures.shown h2 (omega (arith, all)))

pub returns-in_err-close-clause-beside : goal.returns-in_err-close-clause-beside
returns-in_err-close-clause-beside g c = λ h.
    let file = g.D.Disk.seen c.args.disk.now in
    let slot = c.spare_slot-slot.result in
    let h1 = c.close.ensures.honest.0 h in
    steps_beside g.D.Disk.moment g.D.Disk.left_since g.D.Disk.may_leave SLOT_SIZE slot (spare c.args.newest) file _ _ _ c.spare_slot-slot.ensures (itself SLOT_SIZE slot file (c.requires.kept h).whole) c.args.disk.now c.close.new.disk (λ t f le left. g.met.D.Disk.counts_now c.close.new.disk t f h1 le left) (c.close.ensures.any_moment h)

pub returns-then-calls-le2-clause-beside : goal.returns-then-calls-le2-clause-beside
returns-then-calls-le2-clause-beside g c = λ h.
    let file = g.D.Disk.seen c.args.disk.now in
    let slot = c.spare_slot-slot.result in
    let h1 = c.close.ensures.honest.0 h in
    steps_beside g.D.Disk.moment g.D.Disk.left_since g.D.Disk.may_leave SLOT_SIZE slot (spare c.args.newest) file _ _ _ c.spare_slot-slot.ensures (itself SLOT_SIZE slot file (c.requires.kept h).whole) c.args.disk.now c.close.new.disk (λ t f le left. g.met.D.Disk.counts_now c.close.new.disk t f h1 le left) (c.close.ensures.any_moment h)

pub returns-in_err-fill-clause-beside : goal.returns-in_err-fill-clause-beside
returns-in_err-fill-clause-beside g c = λ h.
    let file = g.D.Disk.seen c.args.disk.now in
    let slot = c.spare_slot-slot.result in
    let h1 = c.close.ensures.honest.0 h in
    let h2 = c.fill.ensures.honest.0 h1 in
    let closed = by_gate SLOT_SIZE slot file (g.D.Disk.seen c.close.new.disk) _ _ (c.in_ok-close.ensures.closed h (omega (arith, c.if-calls-le2.false))) in
    steps_beside g.D.Disk.moment g.D.Disk.left_since g.D.Disk.may_leave SLOT_SIZE slot (spare c.args.newest) file _ _ _ c.spare_slot-slot.ensures closed c.close.new.disk c.fill.new.disk (λ t f le left. g.met.D.Disk.counts_now c.fill.new.disk t f h2 le left) (c.fill.ensures.any_moment h1)

pub returns-then-calls-le4-clause-beside : goal.returns-then-calls-le4-clause-beside
returns-then-calls-le4-clause-beside g c = λ h.
    let file = g.D.Disk.seen c.args.disk.now in
    let slot = c.spare_slot-slot.result in
    let h1 = c.close.ensures.honest.0 h in
    let h2 = c.fill.ensures.honest.0 h1 in
    let closed = by_gate SLOT_SIZE slot file (g.D.Disk.seen c.close.new.disk) _ _ (c.in_ok-close.ensures.closed h (omega (arith, c.if-calls-le2.false))) in
    steps_beside g.D.Disk.moment g.D.Disk.left_since g.D.Disk.may_leave SLOT_SIZE slot (spare c.args.newest) file _ _ _ c.spare_slot-slot.ensures closed c.close.new.disk c.fill.new.disk (λ t f le left. g.met.D.Disk.counts_now c.fill.new.disk t f h2 le left) (c.fill.ensures.any_moment h1)

pub returns-clause-beside : goal.returns-clause-beside
returns-clause-beside g c = λ h.
    let file = g.D.Disk.seen c.args.disk.now in
    let slot = c.spare_slot-slot.result in
    let h1 = c.close.ensures.honest.0 h in
    let h2 = c.fill.ensures.honest.0 h1 in
    let closed = by_gate SLOT_SIZE slot file (g.D.Disk.seen c.close.new.disk) _ _ (c.in_ok-close.ensures.closed h (omega (arith, c.if-calls-le2.false))) in
    let h3 = c.show.ensures.honest.0 h2 in
    let filled = by_slot SLOT_SIZE slot file (g.D.Disk.seen c.close.new.disk) (g.D.Disk.seen c.fill.new.disk) _ closed (c.in_ok-fill.ensures.filled h1 (omega (arith, c.if-calls-le4.false))) in
    steps_beside g.D.Disk.moment g.D.Disk.left_since g.D.Disk.may_leave SLOT_SIZE slot (spare c.args.newest) file _ _ _ c.spare_slot-slot.ensures filled c.fill.new.disk c.show.new.disk (λ t f le left. g.met.D.Disk.counts_now c.show.new.disk t f h3 le left) (c.show.ensures.any_moment h2)
