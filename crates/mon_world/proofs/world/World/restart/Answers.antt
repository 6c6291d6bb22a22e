use Rattle.std.proofs.Common.{ℕ, ◌≡◌, ◌+◌, List, length, inl, sym, ap, subst, ◌∙◌}
use Rattle.mon_disk.specs.Memory.{memory_octets}
use Rattle.mon_disk.specs.Kept.{device_of}
use Rattle.mon_world.specs.Places.{HasNumber}
use Rattle.mon_world.specs.Shows.{disk_leaves}
use Rattle.mon_world.proofs.Leading.{leads_same}
use Rattle.mon_world.proofs.Reopened.{left_of_copy, restart_leads}
use Rattle.mon_world.proofs.Stations.{get_at, number_at}
use Rattle.mon_world.specs.Cause.{IsFaultOfCopy, IsRestartReason}
use Rattle.mon_world.specs.Fault.{IsRestartCause}
use Rattle.mon_world.proofs.Addressed.{number_to}
use Rattle.mon_world.proofs.Causes.{none_restarted, reopening_reason, restart_cause, strange_reason}
use Rattle.mon_world.proofs.Results.{err_is}
use Rattle.mon_world.proofs.world.World.restart.Goals as goal

pub returns-clause-outcome : goal.returns-clause-outcome
returns-clause-outcome c past was =
    let self = c.args.self.now in
    let place = c.in_ok-place.place in
    let old = c.index.result.now in
    let at : HasNumber self.stations.items (place + 1) old = number_at self.stations.items place old (get_at self.stations.items place old c.in_ok-place.ensures.within c.index.ensures) in
    let left : disk_leaves old (memory_octets c.in_ok-disk.disk) = inl (left_of_copy (device_of old.keeper) c.disk.result.now c.in_ok-disk.disk c.disk.ensures c.in_ok-disk.ensures.octets) in
    leads_same self.core c.reopen.new.self.core c.reopen.new.self.stations.items self.sent.items c.reopen.new.self.sent.items _ c.reopen.ensures.core c.reopen.ensures.sent
    (restart_leads self.core self.stations.items c.reopen.new.self.stations.items past place self.sent.items was c.args.number c.in_ok-place.ensures.place old at (memory_octets c.in_ok-disk.disk) left
    c.reopen.result c.reopen.ensures.opened c.reopen.ensures.refused)

pub returns-in_err-place-clause-cause : goal.returns-in_err-place-clause-cause
returns-in_err-place-clause-cause c =
    let n = length c.args.self.now.stations.items in
    let f = c.in_err-place.field-0.0 in
    err_is c.from_residual.result (IsRestartCause n c.args.number) f c.from_residual.ensures.1 (none_restarted n c.args.number f c.in_err-place.ensures.strange c.in_err-place.ensures.fault)

pub returns-in_err-place-clause-reason : goal.returns-in_err-place-clause-reason
returns-in_err-place-clause-reason c =
    let self = c.args.self.now in
    let f = c.in_err-place.field-0.0 in
    err_is c.from_residual.result (IsRestartReason c.args.number self.core.watch self.stations.items) f c.from_residual.ensures.1 (strange_reason _ f c.in_err-place.ensures.strange)

pub returns-clause-cause : goal.returns-clause-cause
returns-clause-cause c =
    let self = c.args.self.now in
    let n = length self.stations.items in
    restart_cause n c.args.number self.core.watch (memory_octets c.in_ok-disk.disk) c.reopen.result (number_to n c.in_ok-place.place c.args.number c.in_ok-place.ensures.place c.in_ok-place.ensures.within) c.reopen.ensures.cause

pub returns-clause-reason : goal.returns-clause-reason
returns-clause-reason c =
    let self = c.args.self.now in
    let place = c.in_ok-place.place in
    let old = c.index.result.now in
    let at : HasNumber self.stations.items c.args.number old = subst (λ x. HasNumber self.stations.items x old) (sym c.in_ok-place.ensures.place) (number_at self.stations.items place old (get_at self.stations.items place old c.in_ok-place.ensures.within c.index.ensures)) in
    let same : memory_octets c.in_ok-disk.disk ≡ memory_octets (device_of old.keeper) = c.in_ok-disk.ensures.octets ∙ ap memory_octets c.disk.ensures in
    reopening_reason self.core.watch (memory_octets c.in_ok-disk.disk) _ c.reopen.result (λ g is. (old, at, subst (λ (file : List ℕ). IsFaultOfCopy self.core.watch file g) same is)) c.reopen.ensures.cause
