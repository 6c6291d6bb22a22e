use Rattle.std.proofs.Common.{ℕ, List, Option, Vec, Global, sym, subst}
use Rattle.std.specs.Prelude.{option_map}
use Rattle.mon_disk.specs.Disk.{Leaves}
use Rattle.mon_disk.specs.Keeper.{FindsBody, found_body}
use Rattle.mon_disk.specs.Kept.{device_of, last_body, last_generation}
use Rattle.mon_station.specs.declared.life.Life.{Life}
use Rattle.mon_station.specs.Opened.{setting_in}
use Rattle.mon_station.specs.Saved.{FindsState, IsBeginning, IsBegun, IsSavedAs}
use Rattle.mon_station.specs.State.{state_of}
use Rattle.mon_station.proofs.Kept.{body_fault, body_opening, if_err, if_err_both, if_ok, if_ok_both, only_opened, save_fault, save_opening, then_saved}
use Rattle.mon_station.proofs.Headline.{begins_on}
use Rattle.mon_station.proofs.station.Station.open.Goals as goal

pub returns-in-Ok-begin-clause-opened : goal.returns-in-Ok-begin-clause-opened
returns-in-Ok-begin-clause-opened g c = λ h.
    let w = setting_in c.args.core in
    let begun = subst (λ (b : Option (List ℕ)). IsBegun w b (state_of c.in-Ok-begin.life)) (sym (c.in-Ok.ensures.found h).body_is) c.in-Ok-begin.ensures.begun in
    if_ok c.settle.result _ _ c.settle.ensures.life (λ s same. subst (λ (l : Life). IsBegun w (found_body (g.D.Disk.seen c.args.disk)) (state_of l)) (sym same) begun)

pub returns-in-Ok-begin-clause-beginning : goal.returns-in-Ok-begin-clause-beginning
returns-in-Ok-begin-clause-beginning g c = λ h.
    let D = g.D.Disk in
    let mid = device_of c.in-Ok.keeper in
    let honest = c.in-Ok.ensures.honest.0 h in
    let body = option_map (λ (v : Vec ℕ Global). v.items) c.in-Ok.body in
    if_ok_both c.settle.result _ _ _ (c.settle.ensures.any_moment honest) c.settle.ensures.honest (λ s saving still.
    then_saved (setting_in c.args.core) D c.args.disk mid (c.in-Ok.ensures.opening h) body (device_of s.keeper) (state_of c.in-Ok-begin.life) c.in-Ok-begin.ensures.begun
    (λ t f le left. g.met.D.Disk.counts_now mid t f honest le left) (λ t f le left. g.met.D.Disk.counts_now (device_of s.keeper) t f (still honest) le left)
    (c.in-Ok.ensures.kept h) (c.in-Ok.ensures.found h) saving)

pub returns-in-Ok-begin-clause-beginning_err : goal.returns-in-Ok-begin-clause-beginning_err
returns-in-Ok-begin-clause-beginning_err g c = λ h.
    let D = g.D.Disk in
    let mid = device_of c.in-Ok.keeper in
    let honest = c.in-Ok.ensures.honest.0 h in
    let body = option_map (λ (v : Vec ℕ Global). v.items) c.in-Ok.body in
    if_err_both c.settle.result _ _ _ (c.settle.ensures.any_moment_err honest) c.settle.ensures.honest_err (λ e saving still.
    then_saved (setting_in c.args.core) D c.args.disk mid (c.in-Ok.ensures.opening h) body e.1 (state_of c.in-Ok-begin.life) c.in-Ok-begin.ensures.begun
    (λ t f le left. g.met.D.Disk.counts_now mid t f honest le left) (λ t f le left. g.met.D.Disk.counts_now e.1 t f (still honest) le left)
    (c.in-Ok.ensures.kept h) (c.in-Ok.ensures.found h) saving)

pub returns-in-Err-begin-clause-beginning_err : goal.returns-in-Err-begin-clause-beginning_err
returns-in-Err-begin-clause-beginning_err g c = λ h.
    let D = g.D.Disk in
    let w = setting_in c.args.core in
    subst (λ e. IsBeginning w D c.args.disk e) (sym c.into_disk.ensures)
    (only_opened w D c.args.disk (device_of c.in-Ok.keeper) (c.in-Ok.ensures.opening h))

pub returns-in-Ok-begin-clause-lived : goal.returns-in-Ok-begin-clause-lived
returns-in-Ok-begin-clause-lived g c = λ h.
    let w = setting_in c.args.core in
    let body = found_body (g.D.Disk.seen c.args.disk) in
    let begun = subst (λ (b : Option (List ℕ)). IsBegun w b (state_of c.in-Ok-begin.life)) (sym (c.in-Ok.ensures.found h).body_is) c.in-Ok-begin.ensures.begun in
    if_ok c.settle.result _ _ c.settle.ensures.life (λ s same past origin lived is. begins_on past w body origin (state_of s.life) lived is (subst (λ (l : Life). IsBegun w body (state_of l)) (sym same) begun))

pub returns-in-Ok-begin-clause-happens : goal.returns-in-Ok-begin-clause-happens
returns-in-Ok-begin-clause-happens g c = λ h life.
    let w = setting_in c.args.core in
    let body = found_body (g.D.Disk.seen c.args.disk) in
    let begun = subst (λ (b : Option (List ℕ)). IsBegun w b (state_of c.in-Ok-begin.life)) (sym (c.in-Ok.ensures.found h).body_is) c.in-Ok-begin.ensures.begun in
    if_ok_both c.settle.result _ _ _ c.settle.ensures.life (c.settle.ensures.kept (c.in-Ok.ensures.honest.0 h)) (λ s same kept. record {
      begun = subst (λ (l : Life). IsBegun w body (state_of l)) (sym same) begun;
      kept = subst (λ (l : Life). Leaves (g.D.Disk.may_leave (device_of s.keeper)) (FindsState (state_of l))) (sym same) kept;
    })

pub returns-in-Ok-begin-clause-happens_err : goal.returns-in-Ok-begin-clause-happens_err
returns-in-Ok-begin-clause-happens_err g c = λ h life. returns-in-Ok-begin-clause-beginning_err g c h

pub returns-in-Err-begin-clause-happens_err : goal.returns-in-Err-begin-clause-happens_err
returns-in-Err-begin-clause-happens_err g c = λ h life. returns-in-Err-begin-clause-beginning_err g c h

pub returns-in-Ok-begin-clause-fault : goal.returns-in-Ok-begin-clause-fault
returns-in-Ok-begin-clause-fault g c = if_err c.settle.result _ _ c.settle.ensures.fault (λ e h. (save_opening (last_generation c.in-Ok.keeper) e.0 h).0)

pub returns-in-Err-begin-clause-fault : goal.returns-in-Err-begin-clause-fault
returns-in-Err-begin-clause-fault g c = body_opening c.args.core.watch (option_map (λ (v : Vec ℕ Global). v.items) c.in-Ok.body) c.in-Err-begin.fault c.in-Err-begin.ensures.fault

pub returns-in-Ok-begin-clause-fault_of : goal.returns-in-Ok-begin-clause-fault_of
returns-in-Ok-begin-clause-fault_of g c = λ h.
    if_err c.settle.result _ _ c.settle.ensures.fault (λ e is. save_fault c.args.core.watch (g.D.Disk.seen c.args.disk) (last_generation c.in-Ok.keeper) e.0 (c.in-Ok.ensures.generation h) is)

pub returns-in-Err-begin-clause-fault_of : goal.returns-in-Err-begin-clause-fault_of
returns-in-Err-begin-clause-fault_of g c = λ h.
    body_fault c.args.core.watch (g.D.Disk.seen c.args.disk) (option_map (λ (v : Vec ℕ Global). v.items) c.in-Ok.body) c.in-Err-begin.fault (c.in-Ok.ensures.found h) c.in-Err-begin.ensures.fault

pub returns-in-Ok-begin-clause-found_still : goal.returns-in-Ok-begin-clause-found_still
returns-in-Ok-begin-clause-found_still g c = λ h.
    if_err c.settle.result _ _ c.settle.ensures.fault (λ e is of_body. absurd ((save_opening (last_generation c.in-Ok.keeper) e.0 is).1 of_body))

pub returns-in-Err-begin-clause-found_still : goal.returns-in-Err-begin-clause-found_still
returns-in-Err-begin-clause-found_still g c = λ h of_body.
    let D = g.D.Disk in
    let body = option_map (λ (v : Vec ℕ Global). v.items) c.in-Ok.body in
    subst (λ d. Leaves (D.may_leave d) (FindsBody (found_body (D.seen c.args.disk)))) (sym c.into_disk.ensures)
    (subst (λ (b : Option (List ℕ)). Leaves (D.may_leave (device_of c.in-Ok.keeper)) (FindsBody b)) (sym (c.in-Ok.ensures.found h).body_is) (c.in-Ok.ensures.kept h))

pub settle-requires-clause-kept : goal.settle-requires-clause-kept
settle-requires-clause-kept g c = λ honest.
    let h = c.in-Ok.ensures.honest.1 honest in
    subst (λ (b : Option (List ℕ)). Leaves (g.D.Disk.may_leave (device_of c.in-Ok.keeper)) (FindsBody b)) (sym (c.in-Ok.ensures.last h)) (c.in-Ok.ensures.kept h)

pub returns-in-Ok-begin-clause-last : goal.returns-in-Ok-begin-clause-last
returns-in-Ok-begin-clause-last g c = λ h.
    if_ok_both c.settle.result _ _ _ c.settle.ensures.life (c.settle.ensures.last (c.in-Ok.ensures.honest.0 h)) (λ s same last. subst (λ (l : Life). IsSavedAs (state_of l) (last_body s.keeper)) (sym same) last)

pub returns-in-Ok-begin-clause-kept : goal.returns-in-Ok-begin-clause-kept
returns-in-Ok-begin-clause-kept g c = λ h.
    if_ok_both c.settle.result _ _ _ c.settle.ensures.life (c.settle.ensures.kept (c.in-Ok.ensures.honest.0 h))
    (λ s same kept. subst (λ (l : Life). Leaves (g.D.Disk.may_leave (device_of s.keeper)) (FindsState (state_of l))) (sym same) kept)
