use Rattle.std.proofs.Common.{◌≡◌, Some, length, inl, inr, sym, subst, ◌∙◌, arith}
use Rattle.std.specs.Prelude.{nat_lt, slice_get}
use Rattle.mon_disk.specs.Memory.{memory_octets}
use Rattle.mon_disk.specs.Kept.{device_of}
use Rattle.mon_world.specs.Outcome.{calls_of_save}
use Rattle.mon_world.specs.Shows.{FindsStopped, state_in}
use Rattle.mon_world.proofs.Leading.{leads_same}
use Rattle.mon_world.proofs.Lives.{some_same}
use Rattle.mon_world.proofs.Reopened.{stop_leads}
use Rattle.mon_world.proofs.Stations.{get_at, number_at}
use Rattle.mon_world.specs.Cause.{IsStopReason}
use Rattle.mon_world.specs.Fault.{IsStopCause, station_refusal}
use Rattle.mon_world.specs.Places.{HasNumber}
use Rattle.mon_world.proofs.Addressed.{number_to}
use Rattle.mon_world.proofs.Causes.{begun_cause, for_reason, none_stopped, reopening_reason, stop_cause, strange_reason}
use Rattle.mon_world.proofs.Results.{err_is}
use Rattle.mon_world.proofs.world.World.stop.Goals as goal

pub returns-clause-outcome : goal.returns-clause-outcome
returns-clause-outcome c past was =
    let self = c.args.self.now in
    let place = c.in_ok-place.place in
    let old = c.index.result.now in
    let here : slice_get self.stations.items place ≡ Some old = get_at self.stations.items place old c.in_ok-place.ensures.within c.index.ensures in
    let again : slice_get self.stations.items place ≡ Some c.index-2.result.now = get_at self.stations.items place c.index-2.result.now c.in_ok-place.ensures.within c.index-2.ensures in
    let same : c.index-2.result.now ≡ old = some_same (sym again ∙ here) in
    leads_same self.core c.reopen.new.self.core c.reopen.new.self.stations.items self.sent.items c.reopen.new.self.sent.items _ c.reopen.ensures.core c.reopen.ensures.sent
    (stop_leads self.core self.stations.items c.reopen.new.self.stations.items past place self.sent.items was c.args.number c.in_ok-place.ensures.place old (number_at self.stations.items place old here)
    c.promise_unsaved.ensures c.args.calls c.args.keep (memory_octets c.in_ok-disk.disk)
    (subst (λ s. FindsStopped (nat_lt c.args.calls (calls_of_save c.args.keep)) (state_in s) (memory_octets (device_of s.keeper)) (memory_octets c.in_ok-disk.disk)) same c.in_ok-disk.ensures.found)
    c.reopen.result c.reopen.ensures.opened c.reopen.ensures.refused)

pub returns-in_err-place-clause-cause : goal.returns-in_err-place-clause-cause
returns-in_err-place-clause-cause c =
    let n = length c.args.self.now.stations.items in
    let f = c.in_err-place.field-0.0 in
    err_is c.from_residual.result (IsStopCause n c.args.number c.args.calls) f c.from_residual.ensures.1 (none_stopped n c.args.number c.args.calls f c.in_err-place.ensures.strange c.in_err-place.ensures.fault)

pub returns-in_err-place-clause-reason : goal.returns-in_err-place-clause-reason
returns-in_err-place-clause-reason c =
    let self = c.args.self.now in
    let f = c.in_err-place.field-0.0 in
    err_is c.from_residual.result (IsStopReason c.args.number c.args.calls c.args.keep self.core.watch self.stations.items) f c.from_residual.ensures.1 (strange_reason _ f c.in_err-place.ensures.strange)

pub returns-in_err-disk-clause-cause : goal.returns-in_err-disk-clause-cause
returns-in_err-disk-clause-cause c =
    let n = length c.args.self.now.stations.items in
    let f = c.in_err-disk.field-0.0 in
    err_is c.from_residual-in_err-disk.result (IsStopCause n c.args.number c.args.calls) (station_refusal f) c.from_residual-in_err-disk.ensures.1
    (begun_cause n c.args.number c.args.calls (memory_octets (device_of c.index-2.result.now.keeper)) f (number_to n c.in_ok-place.place c.args.number c.in_ok-place.ensures.place c.in_ok-place.ensures.within) (omega (arith, c.if-calls-gt-CALLS.false)) c.in_err-disk.ensures.fault)

pub returns-in_err-disk-clause-reason : goal.returns-in_err-disk-clause-reason
returns-in_err-disk-clause-reason c =
    let self = c.args.self.now in
    let place = c.in_ok-place.place in
    let one = c.index-2.result.now in
    let at : HasNumber self.stations.items c.args.number one = subst (λ x. HasNumber self.stations.items x one) (sym c.in_ok-place.ensures.place) (number_at self.stations.items place one (get_at self.stations.items place one c.in_ok-place.ensures.within c.index-2.ensures)) in
    let f = c.in_err-disk.field-0.0 in
    err_is c.from_residual-in_err-disk.result (IsStopReason c.args.number c.args.calls c.args.keep self.core.watch self.stations.items) (station_refusal f) c.from_residual-in_err-disk.ensures.1
    (for_reason _ f (λ other. (one, at, inl c.in_err-disk.ensures.fault)))

pub returns-clause-cause : goal.returns-clause-cause
returns-clause-cause c =
    let self = c.args.self.now in
    let n = length self.stations.items in
    stop_cause n c.args.number c.args.calls self.core.watch (memory_octets c.in_ok-disk.disk) c.reopen.result (number_to n c.in_ok-place.place c.args.number c.in_ok-place.ensures.place c.in_ok-place.ensures.within)
    (omega (arith, c.if-calls-gt-CALLS.false)) c.reopen.ensures.cause

pub returns-clause-reason : goal.returns-clause-reason
returns-clause-reason c =
    let self = c.args.self.now in
    let place = c.in_ok-place.place in
    let one = c.index-2.result.now in
    let at : HasNumber self.stations.items c.args.number one = subst (λ x. HasNumber self.stations.items x one) (sym c.in_ok-place.ensures.place) (number_at self.stations.items place one (get_at self.stations.items place one c.in_ok-place.ensures.within c.index-2.ensures)) in
    reopening_reason self.core.watch (memory_octets c.in_ok-disk.disk) _ c.reopen.result (λ g is. (one, at, inr (memory_octets c.in_ok-disk.disk, c.in_ok-disk.ensures.found, is))) c.reopen.ensures.cause
