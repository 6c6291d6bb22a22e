use Rattle.std.proofs.Common.{◌+◌, Err, length, refl, ap, ◌∙◌}
use Rattle.std.specs.Prelude.{slice_set}
use Rattle.mon_disk.specs.Kept.{device_of}
use Rattle.mon_world.specs.Cause.{IsSaveReason}
use Rattle.mon_world.specs.Fault.{IsSaveCause, IsStationCause}
use Rattle.mon_world.proofs.Addressed.{number_to}
use Rattle.mon_world.proofs.Causes.{event_cause, fault_of_save, for_reason, save_cause}
use Rattle.mon_world.specs.Places.{HasNumber}
use Rattle.mon_world.proofs.Asked.{asked_err, asked_ok, refused_as, torn, unmoved}
use Rattle.mon_world.proofs.Kept.{kept_step}
use Rattle.mon_world.proofs.Stations.{get_at, number_at, number_here}
use Rattle.mon_world.proofs.Results.{err_is}
use Rattle.mon_world.proofs.world.ask.Goals as goal

pub returns-clause-told : goal.returns-clause-told
returns-clause-told c core past was =
    let stations = c.args.stations.now.items in
    let old = c.index_mut.result.now in
    let new = c.step.new.self in
    let at : HasNumber stations (c.args.place + 1) old = number_at stations c.args.place old (get_at stations c.args.place old c.requires c.index_mut.ensures.value) in
    let read = c.in_ok-told.ensures.read in
    let answered = c.in_ok-told.ensures.answered read.0 read.1 in
    asked_ok core stations past was c.args.place old new at c.args.event read.0 read.1 c.step.ensures.disk c.in_ok-told.told answered.0 answered.1 (c.in_ok-told.ensures.saved tt) (c.in_ok-told.ensures.last tt)

pub returns-in_err-told-clause-refused : goal.returns-in_err-told-clause-refused
returns-in_err-told-clause-refused c =
    let stations = c.args.stations.now.items in
    let old = c.index_mut.result.now in
    let new = c.step.new.self in
    let f = c.in_err-told.field-0.0 in
    let at : HasNumber stations (c.args.place + 1) old = number_at stations c.args.place old (get_at stations c.args.place old c.requires c.index_mut.ensures.value) in
    err_is c.from_residual.result _ _ c.from_residual.ensures.1 (λ core past was.
    refused_as core stations past was c.args.place old new at c.args.event f
    (λ is. let same = c.step.ensures.memory (c.in_err-told.was ∙ ap Err is) in unmoved core stations past was c.args.place old new at same.0 same.1)
    (λ other. let read = c.in_err-told.ensures.read other in
    asked_err core stations past was c.args.place old new at c.args.event read.0 read.1 c.step.ensures.disk f (c.in_err-told.ensures.answered read.0 read.1) c.in_err-told.ensures.unsaved (c.in_err-told.ensures.last_err tt)
    (torn _ _ _ (c.step.ensures.any_moment tt))))

pub returns-in_err-told-clause-kept : goal.returns-in_err-told-clause-kept
returns-in_err-told-clause-kept c =
    let stations = c.args.stations.now.items in
    let old = c.index_mut.result.now in
    let new = c.step.new.self in
    let f = c.in_err-told.field-0.0 in
    let at : HasNumber stations (c.args.place + 1) old = number_at stations c.args.place old (get_at stations c.args.place old c.requires c.index_mut.ensures.value) in
    err_is c.from_residual.result _ _ c.from_residual.ensures.1
    (kept_step stations c.args.place old new f at c.in_err-told.ensures.refused c.in_err-told.ensures.unsaved (λ is. (c.step.ensures.memory (c.in_err-told.was ∙ ap Err is)).0))

pub returns-in_err-told-clause-cause : goal.returns-in_err-told-clause-cause
returns-in_err-told-clause-cause c =
    let n = length c.args.stations.now.items in
    err_is c.from_residual.result (IsStationCause n (c.args.place + 1)) _ c.from_residual.ensures.1 (event_cause n (c.args.place + 1) c.in_err-told.field-0.0 (number_to n c.args.place (c.args.place + 1) refl c.requires))

pub returns-in_err-told-clause-saving : goal.returns-in_err-told-clause-saving
returns-in_err-told-clause-saving c saves =
    let n = length c.args.stations.now.items in
    err_is c.from_residual.result (IsSaveCause n (c.args.place + 1)) _ c.from_residual.ensures.1 (save_cause n (c.args.place + 1) c.in_err-told.field-0.0 (number_to n c.args.place (c.args.place + 1) refl c.requires) (c.in_err-told.ensures.save_fault saves))

pub returns-in_err-told-clause-reason : goal.returns-in_err-told-clause-reason
returns-in_err-told-clause-reason c saves =
    let stations = c.args.stations.now.items in
    let old = c.index_mut.result.now in
    let new = c.step.new.self in
    let f = c.in_err-told.field-0.0 in
    let there = get_at stations c.args.place old c.requires c.index_mut.ensures.value in
    err_is c.from_residual.result (IsSaveReason (c.args.place + 1) stations (slice_set stations c.args.place new)) _ c.from_residual.ensures.1
    (for_reason _ f (λ other. (
      old,
      new,
      number_at stations c.args.place old there,
      number_here stations c.args.place old new there,
      fault_of_save (device_of old.keeper) (device_of new.keeper) f (c.in_err-told.ensures.save_fault saves) c.in_err-told.ensures.cause (λ is. c.step.ensures.no_more_found tt saves (c.in_err-told.was ∙ ap Err is)) other,
    )))
