use Rattle.std.proofs.Common.{Some, ap, arith, drop, length, subst, sym, ◌∙◌}
use Rattle.mon_disk.specs.Kept.{device_of, last_body}
use Rattle.mon_disk.proofs.Promised.{weaker}
use Rattle.mon_station.specs.Saved.{may_meet}
use Rattle.mon_station.specs.State.{state_of}
use Rattle.mon_station.proofs.Handled.{by_memory, save_refused, saved}
use Rattle.mon_station.proofs.Kept.{Spells, finds_either, finds_state, rests}
use Rattle.mon_station.proofs.station.Station.save.Goals as goal

pub returns-in_err-image-clause-answered : goal.returns-in_err-image-clause-answered
returns-in_err-image-clause-answered g c = by_memory (state_of c.args.self.now.life) c.settled.ensures.settled _ c.from_residual.result c.from_residual.ensures.1

pub returns-in-Ok-clause-answered : goal.returns-in-Ok-clause-answered
returns-in-Ok-clause-answered g c =
    let told = c.told_none.ensures in
    saved (state_of c.args.self.now.life) c.settled.ensures.settled c.told_none.result told.taken told.sends told.noted told.given_up told.answered

pub returns-in-Ok-clause-saved : goal.returns-in-Ok-clause-saved
returns-in-Ok-clause-saved g c = λ honest file left.
    let image = c.in_ok-image.ensures in
    finds_state (state_of c.args.self.now.life) _ _ file (ap (λ l. drop 16 l) c.as_mut_slice.ensures.value) image.written (subst (Spells (state_of c.args.self.now.life)) (sym image.written) image.spells) (c.in-Ok.ensures.save.saved honest file left)

pub returns-in_err-image-clause-any_moment : goal.returns-in_err-image-clause-any_moment
returns-in_err-image-clause-any_moment g c = λ honest.
    let D = g.D.Disk in
    let d = device_of c.args.self.now.keeper in
    rests D.may_leave D.moment D.left_since d (last_body c.args.self.now.keeper) (state_of c.args.self.now.life) (λ file left. g.met.D.Disk.only_now d file honest left)

pub returns-in-Ok-clause-any_moment : goal.returns-in-Ok-clause-any_moment
returns-in-Ok-clause-any_moment g c = λ honest.
    let D = g.D.Disk in
    let d = device_of c.args.self.now.keeper in
    let image = c.in_ok-image.ensures in
    weaker D.moment D.left_since D.may_leave d _ _ _ (finds_either (may_meet c.args.self.now.keeper) (state_of c.args.self.now.life) _ _ (ap (λ l. drop 16 l) c.as_mut_slice.ensures.value) image.written (subst (Spells (state_of c.args.self.now.life)) (sym image.written) image.spells)) (c.in-Ok.ensures.save.any_moment honest)

pub returns-in-Err-clause-any_moment : goal.returns-in-Err-clause-any_moment
returns-in-Err-clause-any_moment g c = λ honest.
    let D = g.D.Disk in
    let d = device_of c.args.self.now.keeper in
    let image = c.in_ok-image.ensures in
    weaker D.moment D.left_since D.may_leave d _ _ _ (finds_either (may_meet c.args.self.now.keeper) (state_of c.args.self.now.life) _ _ (ap (λ l. drop 16 l) c.as_mut_slice.ensures.value) image.written (subst (Spells (state_of c.args.self.now.life)) (sym image.written) image.spells)) (c.in-Err.ensures.save.any_moment honest)

pub returns-in-Err-clause-answered : goal.returns-in-Err-clause-answered
returns-in-Err-clause-answered g c = save_refused (state_of c.args.self.now.life) c.settled.ensures.settled c.in-Err.fault c.from.result c.from.ensures

pub returns-in-Ok-clause-last : goal.returns-in-Ok-clause-last
returns-in-Ok-clause-last g c = λ honest.
    let image = c.in_ok-image.ensures in
    let octets = ap (λ l. drop 16 l) c.as_mut_slice.ensures.value ∙ image.written in
    record { octets = c.in-Ok.ensures.save.last honest ∙ ap Some octets; spells = image.spells }

pub reopen_and_save-requires-clause-fits : goal.reopen_and_save-requires-clause-fits
reopen_and_save-requires-clause-fits g c =
    let image = c.in_ok-image.ensures in
    let octets = ap (λ l. drop 16 l) c.as_mut_slice.ensures.value ∙ image.written in
    omega (arith, ap length octets, image.few)
