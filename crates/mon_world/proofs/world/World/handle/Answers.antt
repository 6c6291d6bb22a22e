use Rattle.std.proofs.Common.{◌≡◌, ◌+◌, ◌++◌, List, length, refl, sym, ap, subst, ◌∙◌}
use Rattle.std.proofs.lemmas.Result.{IfOk-from_err}
use Rattle.mon_station.specs.ReadEvent.{owned}
use Rattle.mon_world.specs.declared.fault.WorldFault.TheVariants.{OutOfMemory}
use Rattle.mon_world.specs.declared.sending.Datagram.{Datagram}
use Rattle.mon_world.specs.Cause.{IsSaveReason}
use Rattle.mon_world.specs.Fault.{IsSaveCause, IsStationCause, refusal_in}
use Rattle.mon_world.specs.Kept.{AreKept}
use Rattle.mon_world.specs.Outcome.{Hands}
use Rattle.mon_world.specs.Places.{setting_at}
use Rattle.mon_world.specs.Sending.{to_peers}
use Rattle.mon_world.proofs.Addressed.{number_to}
use Rattle.mon_world.proofs.Causes.{none_saved, strange_reason}
use Rattle.mon_world.proofs.Kept.{kept_same}
use Rattle.mon_world.proofs.Leading.{leads_err, leads_ok, leads_refused, leads_unasked}
use Rattle.mon_world.proofs.Results.{err_is}
use Rattle.mon_world.proofs.world.World.handle.Goals as goal

pub returns-in_err-reserve : goal.returns-in_err-reserve
returns-in_err-reserve c =
    let self = c.args.self.now in
    let n = length self.stations.items in
    let f = OutOfMemory in
    let r = c.from_residual.result in
    let err = c.from_residual.ensures.0 in
    let is = c.from_residual.ensures.1 in
    record {
      outcome = λ past was. leads_unasked self.core self.stations.items self.sent.items c.reserve.new.self.items past (Hands (setting_at self.core n c.args.number) c.args.number (owned c.args.event)) r f is (refl) c.in_err-reserve.ensures.items was;
      there = IfOk-from_err r _ err;
      cause = err_is r (IsStationCause n c.args.number) f is tt;
      saving = λ saves. err_is r (IsSaveCause n c.args.number) f is tt;
      reason = λ saves. err_is r (IsSaveReason c.args.number self.stations.items self.stations.items) f is tt;
      first = IfOk-from_err r _ err;
      count = IfOk-from_err r _ err;
      refused = err_is r (λ _. c.reserve.new.self.items ≡ self.sent.items) f is c.in_err-reserve.ensures.items;
      kept = err_is r (AreKept self.stations.items self.stations.items) f is (kept_same self.stations.items self.stations.items f refl);
      core = refl;
      stations = refl;
    }

pub returns-in_err-place : goal.returns-in_err-place
returns-in_err-place c =
    let self = c.args.self.now in
    let n = length self.stations.items in
    let f = c.in_err-place.field-0.0 in
    let r = c.from_residual-in_err-place.result in
    let err = c.from_residual-in_err-place.ensures.0 in
    let is = c.from_residual-in_err-place.ensures.1 in
    record {
      outcome = λ past was. leads_unasked self.core self.stations.items self.sent.items c.reserve.new.self.items past (Hands (setting_at self.core n c.args.number) c.args.number (owned c.args.event)) r f is (ap refusal_in c.in_err-place.ensures.strange) c.in_ok-reserve.ensures.items was;
      there = IfOk-from_err r _ err;
      cause = err_is r (IsStationCause n c.args.number) f is c.in_err-place.ensures.fault;
      saving = λ saves. err_is r (IsSaveCause n c.args.number) f is (none_saved n c.args.number f c.in_err-place.ensures.strange c.in_err-place.ensures.fault);
      reason = λ saves. err_is r (IsSaveReason c.args.number self.stations.items self.stations.items) f is (strange_reason _ f c.in_err-place.ensures.strange);
      first = IfOk-from_err r _ err;
      count = IfOk-from_err r _ err;
      refused = err_is r (λ _. c.reserve.new.self.items ≡ self.sent.items) f is c.in_ok-reserve.ensures.items;
      kept = err_is r (AreKept self.stations.items self.stations.items) f is (kept_same self.stations.items self.stations.items f refl);
      core = refl;
      stations = refl;
    }

pub returns : goal.returns
returns c =
    let self = c.args.self.now in
    let same = c.in_ok-reserve.ensures.items in
    record {
      outcome = λ past was.
          leads_ok self.core self.stations.items c.ask.new.stations.items self.sent.items past c.args.number c.in_ok-place.place c.in_ok-place.ensures.place was (owned c.args.event)
          (to_peers c.in_ok-told.told.sends.items) c.append.new.sent.items
          (c.append.ensures.appended ∙ ap (λ (l : List Datagram). l ++ to_peers c.in_ok-told.told.sends.items) c.in_ok-reserve.ensures.items)
          (c.in_ok-told.ensures.told self.core past was.shown) c.append.result;
      there = number_to (length self.stations.items) c.in_ok-place.place c.args.number c.in_ok-place.ensures.place c.in_ok-place.ensures.within;
      cause = tt;
      saving = λ saves. tt;
      reason = λ saves. tt;
      first = c.append.ensures.first ∙ ap (λ (l : List Datagram). length l + 1) same;
      count = ap (λ (l : List Datagram). length l + c.append.result.count) (sym same) ∙ c.append.ensures.count;
      refused = tt;
      kept = tt;
      core = refl;
      stations = c.ask.ensures.count;
    }

pub returns-in_err-told : goal.returns-in_err-told
returns-in_err-told c =
    let self = c.args.self.now in
    let same = c.in_ok-reserve.ensures.items in
    let n = length self.stations.items in
    let f = c.in_err-told.field-0.0 in
    let r = c.from_residual-in_err-told.result in
    let err = c.from_residual-in_err-told.ensures.0 in
    let is = c.from_residual-in_err-told.ensures.1 in
    record {
      outcome = λ past was.
          leads_err self.core c.ask.new.stations.items c.reserve.new.self.items past (Hands (setting_at self.core (length self.stations.items) c.args.number) c.args.number (owned c.args.event))
          c.from_residual-in_err-told.result c.in_err-told.field-0.0 c.from_residual-in_err-told.ensures.1
          (leads_refused self.core self.stations.items c.ask.new.stations.items self.sent.items past c.args.number c.in_ok-place.place c.in_ok-place.ensures.place was (owned c.args.event)
          c.in_err-told.field-0.0 c.reserve.new.self.items c.in_ok-reserve.ensures.items (c.in_err-told.ensures.refused self.core past was.shown));
      there = IfOk-from_err r _ err;
      cause = err_is r (IsStationCause n c.args.number) f is (subst (λ x. IsStationCause n x f) (sym c.in_ok-place.ensures.place) c.in_err-told.ensures.cause);
      saving = λ saves. err_is r (IsSaveCause n c.args.number) f is (subst (λ x. IsSaveCause n x f) (sym c.in_ok-place.ensures.place) (c.in_err-told.ensures.saving saves));
      reason = λ saves. err_is r (IsSaveReason c.args.number self.stations.items c.ask.new.stations.items) f is (subst (λ x. IsSaveReason x self.stations.items c.ask.new.stations.items f) (sym c.in_ok-place.ensures.place) (c.in_err-told.ensures.reason saves));
      first = IfOk-from_err r _ err;
      count = IfOk-from_err r _ err;
      refused = err_is r (λ _. c.reserve.new.self.items ≡ self.sent.items) f is same;
      kept = err_is r (AreKept self.stations.items c.ask.new.stations.items) f is c.in_err-told.ensures.kept;
      core = refl;
      stations = c.ask.ensures.count;
    }
