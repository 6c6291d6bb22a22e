use Rattle.std.proofs.Common.{◌≡◌, ◌+◌, ◌<◌, ◌++◌, List, Some, Ok, length, refl, sym, ap, subst, ◌∙◌}
use Rattle.std.specs.Prelude.{slice_get}
use Rattle.std.proofs.lemmas.Result.{IfOk-from_err}
use Rattle.mon_station.specs.declared.event.Event.TheVariants.{FromPeer}
use Rattle.mon_world.specs.declared.fault.WorldFault.TheVariants.{OutOfMemory}
use Rattle.mon_world.specs.declared.sending.Datagram.{Datagram}
use Rattle.mon_world.specs.Fault.{IsDeliveryCause, refusal_in}
use Rattle.mon_world.specs.Kept.{AreKept}
use Rattle.mon_world.specs.Outcome.{Delivers, Hands}
use Rattle.mon_world.specs.Places.{IsNumberTo, setting_at}
use Rattle.mon_world.specs.Sending.{to_peers}
use Rattle.mon_world.proofs.Addressed.{as_delivery, delivery_cause, letter_addressed, letter_of, not_there, number_to}
use Rattle.mon_world.proofs.Kept.{kept_same}
use Rattle.mon_world.proofs.Leading.{leads_as, leads_err, leads_ok, leads_refused, leads_unasked}
use Rattle.mon_world.proofs.Lives.{some_same}
use Rattle.mon_world.proofs.Results.{err_is}
use Rattle.mon_world.proofs.Stations.{get_at}
use Rattle.mon_world.proofs.world.World.deliver.Goals as goal

pub returns-in_err-reserve : goal.returns-in_err-reserve
returns-in_err-reserve c =
    let self = c.args.self.now in
    let f = OutOfMemory in
    let r = c.from_residual.result in
    let err = c.from_residual.ensures.0 in
    let is = c.from_residual.ensures.1 in
    record {
      outcome = λ past was. leads_unasked self.core self.stations.items self.sent.items c.reserve.new.self.items past (Delivers (setting_at self.core (length self.stations.items)) c.args.number) r f is (refl) c.in_err-reserve.ensures.items was;
      there = IfOk-from_err r _ err;
      cause = λ past was. err_is r (IsDeliveryCause (length self.sent.items) c.args.number) f is (tt);
      first = IfOk-from_err r _ err;
      count = IfOk-from_err r _ err;
      refused = err_is r (λ _. c.reserve.new.self.items ≡ self.sent.items) f is c.in_err-reserve.ensures.items;
      kept = err_is r (AreKept self.stations.items self.stations.items) f is (kept_same self.stations.items self.stations.items f refl);
      core = refl;
      stations = refl;
    }

pub returns-in_err-datagram : goal.returns-in_err-datagram
returns-in_err-datagram c =
    let self = c.args.self.now in
    let f = c.in_err-datagram.field-0.0 in
    let r = c.from_residual-in_err-datagram.result in
    let err = c.from_residual-in_err-datagram.ensures.0 in
    let is = c.from_residual-in_err-datagram.ensures.1 in
    record {
      outcome = λ past was. leads_unasked self.core self.stations.items self.sent.items c.reserve.new.self.items past (Delivers (setting_at self.core (length self.stations.items)) c.args.number) r f is (ap refusal_in c.in_err-datagram.ensures.strange) c.in_ok-reserve.ensures.items was;
      there = IfOk-from_err r _ err;
      cause = λ past was. err_is r (IsDeliveryCause (length self.sent.items) c.args.number) f is (subst (λ (l : List Datagram). IsDeliveryCause (length l) c.args.number f) c.in_ok-reserve.ensures.items c.in_err-datagram.ensures.fault);
      first = IfOk-from_err r _ err;
      count = IfOk-from_err r _ err;
      refused = err_is r (λ _. c.reserve.new.self.items ≡ self.sent.items) f is c.in_ok-reserve.ensures.items;
      kept = err_is r (AreKept self.stations.items self.stations.items) f is (kept_same self.stations.items self.stations.items f refl);
      core = refl;
      stations = refl;
    }

pub returns-in_err-place : goal.returns-in_err-place
returns-in_err-place c =
    let self = c.args.self.now in
    let f = c.in_err-place.field-0.0 in
    let r = c.from_residual-in_err-place.result in
    let err = c.from_residual-in_err-place.ensures.0 in
    let is = c.from_residual-in_err-place.ensures.1 in
    record {
      outcome = λ past was. leads_unasked self.core self.stations.items self.sent.items c.reserve.new.self.items past (Delivers (setting_at self.core (length self.stations.items)) c.args.number) r f is (ap refusal_in c.in_err-place.ensures.strange) c.in_ok-reserve.ensures.items was;
      there = IfOk-from_err r _ err;
      cause = λ past was.
          let k = c.in_ok-datagram.datagram in
          let sent = c.reserve.new.self.items in
          let here : slice_get sent k ≡ Some c.index.result.now = get_at sent k c.index.result.now c.in_ok-datagram.ensures.within c.index.ensures in
          let l = letter_of self.core self.stations.items self.sent.items past was c.args.number k c.in_ok-datagram.ensures.place c.index.result.now (ap (λ (s : List Datagram). slice_get s k) (sym c.in_ok-reserve.ensures.items) ∙ here) in
          let to : IsNumberTo (length self.stations.items) c.index.result.now.to = subst (λ x. IsNumberTo (length self.stations.items) x) l.2 (letter_addressed self.core self.stations.items self.sent.items past was c.args.number l.0 l.1) in
          absurd (not_there (length self.stations.items) c.index.result.now.to c.in_err-place.field-0.0 c.in_err-place.ensures.strange to c.in_err-place.ensures.fault);
      first = IfOk-from_err r _ err;
      count = IfOk-from_err r _ err;
      refused = err_is r (λ _. c.reserve.new.self.items ≡ self.sent.items) f is c.in_ok-reserve.ensures.items;
      kept = err_is r (AreKept self.stations.items self.stations.items) f is (kept_same self.stations.items self.stations.items f refl);
      core = refl;
      stations = refl;
    }

pub returns : goal.returns
returns c =
    let self = c.args.self.now in
    let same = c.in_ok-reserve.ensures.items in
    record {
      outcome = λ past was.
          let n = length self.stations.items in
          let k = c.in_ok-datagram.datagram in
          let sent = c.reserve.new.self.items in
          let d = c.index.result.now in
          let here : slice_get sent k ≡ Some d = get_at sent k d c.in_ok-datagram.ensures.within c.index.ensures in
          let again : slice_get sent k ≡ Some c.index-2.result.now = get_at sent k c.index-2.result.now c.in_ok-datagram.ensures.within c.index-2.ensures in
          let octets : c.as_slice.result.now ≡ d.octets = c.as_slice.ensures ∙ ap (λ (e : Datagram). e.octets) (some_same (sym again ∙ here)) in
          let l = letter_of self.core self.stations.items self.sent.items past was c.args.number k c.in_ok-datagram.ensures.place d (ap (λ (s : List Datagram). slice_get s k) (sym c.in_ok-reserve.ensures.items) ∙ here) in
          leads_as self.core c.ask.new.stations.items c.append.new.sent.items past (Hands (setting_at self.core n d.to) d.to (FromPeer c.as_slice.result.now)) (Delivers (setting_at self.core n) c.args.number) (Ok c.append.result)
          (as_delivery self.core n c.args.number d.to past l.0 l.1 l.2 c.as_slice.result.now (l.3 ∙ sym octets))
          (leads_ok self.core self.stations.items c.ask.new.stations.items self.sent.items past d.to c.in_ok-place.place c.in_ok-place.ensures.place was (FromPeer c.as_slice.result.now)
          (to_peers c.in_ok-told.told.sends.items) c.append.new.sent.items
          (c.append.ensures.appended ∙ ap (λ (s : List Datagram). s ++ to_peers c.in_ok-told.told.sends.items) c.in_ok-reserve.ensures.items)
          (c.in_ok-told.ensures.told self.core past was.shown) c.append.result);
      there = number_to (length self.sent.items) c.in_ok-datagram.datagram c.args.number c.in_ok-datagram.ensures.place (subst (λ (l : List Datagram). c.in_ok-datagram.datagram < length l) same c.in_ok-datagram.ensures.within);
      cause = λ past was. tt;
      first = c.append.ensures.first ∙ ap (λ (l : List Datagram). length l + 1) same;
      count = ap (λ (l : List Datagram). length l + c.append.result.count) (sym same) ∙ c.append.ensures.count;
      refused = tt;
      kept = tt;
      core = refl;
      stations = c.ask.ensures.count;
    }

pub returns-in_err-told : goal.returns-in_err-told
returns-in_err-told c =
    let self = c.args.self.now in
    let same = c.in_ok-reserve.ensures.items in
    let f = c.in_err-told.field-0.0 in
    let r = c.from_residual-in_err-told.result in
    let err = c.from_residual-in_err-told.ensures.0 in
    let is = c.from_residual-in_err-told.ensures.1 in
    record {
      outcome = λ past was.
          let n = length self.stations.items in
          let k = c.in_ok-datagram.datagram in
          let sent = c.reserve.new.self.items in
          let d = c.index.result.now in
          let here : slice_get sent k ≡ Some d = get_at sent k d c.in_ok-datagram.ensures.within c.index.ensures in
          let again : slice_get sent k ≡ Some c.index-2.result.now = get_at sent k c.index-2.result.now c.in_ok-datagram.ensures.within c.index-2.ensures in
          let octets : c.as_slice.result.now ≡ d.octets = c.as_slice.ensures ∙ ap (λ (e : Datagram). e.octets) (some_same (sym again ∙ here)) in
          let l = letter_of self.core self.stations.items self.sent.items past was c.args.number k c.in_ok-datagram.ensures.place d (ap (λ (s : List Datagram). slice_get s k) (sym c.in_ok-reserve.ensures.items) ∙ here) in
          leads_as self.core c.ask.new.stations.items c.reserve.new.self.items past (Hands (setting_at self.core n d.to) d.to (FromPeer c.as_slice.result.now)) (Delivers (setting_at self.core n) c.args.number) c.from_residual-in_err-told.result
          (as_delivery self.core n c.args.number d.to past l.0 l.1 l.2 c.as_slice.result.now (l.3 ∙ sym octets))
          (leads_err self.core c.ask.new.stations.items c.reserve.new.self.items past (Hands (setting_at self.core n d.to) d.to (FromPeer c.as_slice.result.now))
          c.from_residual-in_err-told.result c.in_err-told.field-0.0 c.from_residual-in_err-told.ensures.1
          (leads_refused self.core self.stations.items c.ask.new.stations.items self.sent.items past d.to c.in_ok-place.place c.in_ok-place.ensures.place was (FromPeer c.as_slice.result.now)
          c.in_err-told.field-0.0 c.reserve.new.self.items c.in_ok-reserve.ensures.items (c.in_err-told.ensures.refused self.core past was.shown)));
      there = IfOk-from_err r _ err;
      cause = λ past was. err_is r (IsDeliveryCause (length self.sent.items) c.args.number) f is
          (delivery_cause (length self.stations.items) (length self.sent.items) c.in_ok-place.place c.args.number c.in_ok-datagram.datagram c.in_ok-place.ensures.within c.in_ok-datagram.ensures.place
          (subst (λ (l : List Datagram). c.in_ok-datagram.datagram < length l) same c.in_ok-datagram.ensures.within) f c.in_err-told.ensures.cause);
      first = IfOk-from_err r _ err;
      count = IfOk-from_err r _ err;
      refused = err_is r (λ _. c.reserve.new.self.items ≡ self.sent.items) f is same;
      kept = err_is r (AreKept self.stations.items c.ask.new.stations.items) f is c.in_err-told.ensures.kept;
      core = refl;
      stations = c.ask.ensures.count;
    }
