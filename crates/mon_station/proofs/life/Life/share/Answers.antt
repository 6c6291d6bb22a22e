use Rattle.std.proofs.Common.{List, map, refl, ap, subst, ◌∙◌}
use Rattle.std.specs.List.{AllByRecursion}
use Rattle.mon_exchange.specs.declared.sharing.Portion.{Portion}
use Rattle.mon_exchange.specs.Claim.{IsClaim}
use Rattle.mon_station.specs.State.{serial_past, state_of}
use Rattle.mon_station.specs.Told.{offers_from, to_peer}
use Rattle.mon_station.proofs.Few.{offers_few}
use Rattle.mon_station.proofs.Handled.{by_memory, share_refused}
use Rattle.mon_station.proofs.Offered.{shared}
use Rattle.mon_station.proofs.life.Life.share.Goals as goal

pub returns-in_err-portions-clause-answered : goal.returns-in_err-portions-clause-answered
returns-in_err-portions-clause-answered c = by_memory (state_of c.args.self.now) c.settled.ensures.settled _ c.from_residual.result c.from_residual.ensures.1

pub returns-in_err-sends-clause-answered : goal.returns-in_err-sends-clause-answered
returns-in_err-sends-clause-answered c = by_memory (state_of c.args.self.now) c.settled.ensures.settled _ c.from_residual-in_err-sends.result c.from_residual-in_err-sends.ensures.1

pub returns-clause-answered : goal.returns-clause-answered
returns-clause-answered c =
    let s = state_of c.args.self.now in
    let sent = c.in_ok-sends.ensures in
    let same = c.as_slice.ensures.value ∙ c.in_ok-portions.ensures.portions in
    shared s c.settled.ensures.settled c.args.peer c.in-Some.slot c.in_ok-sends.serial _ c.in-Some.ensures.slot (sent.next ∙ ap (serial_past s.serial) same)
    c.new.ensures (sent.sent ∙ ap (λ (ps : List Portion). map (to_peer c.args.peer) (offers_from s s.serial ps)) same) refl refl refl
    (subst (λ (ps : List Portion). AllByRecursion IsClaim (offers_from s s.serial ps)) same sent.claims)

pub returns-clause-few : goal.returns-clause-few
returns-clause-few c =
    let s = state_of c.args.self.now in
    let same = c.as_slice.ensures.value ∙ c.in_ok-portions.ensures.portions in
    offers_few s c.settled.ensures.settled c.in-Some.slot c.args.peer c.in_ok-sends.sends.items
    (c.in_ok-sends.ensures.sent ∙ ap (λ (ps : List Portion). map (to_peer c.args.peer) (offers_from s s.serial ps)) same)

pub returns-in_default-clause-answered : goal.returns-in_default-clause-answered
returns-in_default-clause-answered c = share_refused (state_of c.args.self.now) c.settled.ensures.settled c.args.peer c.in_default.ensures.slot
