use Rattle.std.proofs.Common.{◌≡◌, Result, Ok, Err, ap, refl}
use Rattle.mon_station.specs.State.{state_of}
use Rattle.mon_station.proofs.Handled.{by_memory}
use Rattle.mon_station.proofs.Claimed.{accepted, claim_refused, told_claim}
use Rattle.mon_station.proofs.life.Life.take_claim.Goals as goal

pub returns-in_err-taken-clause-answered : goal.returns-in_err-taken-clause-answered
returns-in_err-taken-clause-answered c = λ n numbered. by_memory (state_of c.args.self.now) c.settled.ensures.settled _ c.from_residual.result c.from_residual.ensures.1

pub returns-in_err-sends-clause-answered : goal.returns-in_err-sends-clause-answered
returns-in_err-sends-clause-answered c = λ n numbered. by_memory (state_of c.args.self.now) c.settled.ensures.settled _ c.from_residual-in_err-sends.result c.from_residual-in_err-sends.ensures.1

pub returns-in-Ok-clause-answered : goal.returns-in-Ok-clause-answered
returns-in-Ok-clause-answered c = λ n numbered.
    let s = state_of c.args.self.now in
    let noted = c.in-Ok.ensures in (
      accepted s c.settled.ensures.settled c.args.claim.now c.note.new.board c.note.new.self
          (λ none. no_error _ (noted.unknown_peer.1 none)) (λ unwatched. no_error _ (noted.unknown_instance.1 unwatched)) noted.watch noted.windows noted.own noted.numbers noted.known noted.marks n numbered,
      told_claim s c.settled.ensures.settled c.args.claim.now n _ c.in-Ok.noted (c.in_ok-taken.ensures.pairs n numbered) c.in_ok-sends.ensures.sent refl refl refl noted.noted c.in_ok-sends.ensures.claims,
    )
  where
    no_error : {A E : Type 0} {x : A} (e : E) → (let r : Result A E = Ok x in r ≡ Err e) → ⊥
    no_error e is = cc

pub returns-in-Err-clause-answered : goal.returns-in-Err-clause-answered
returns-in-Err-clause-answered c = λ n numbered.
    let noted = c.in-Err.ensures in
    claim_refused (state_of c.args.self.now) c.settled.ensures.settled c.args.claim.now n c.in-Err.fault c.from.result c.note.new.board c.note.new.self c.from.ensures numbered
    noted.refused.0 noted.refused.1 noted.faults (λ is. noted.unknown_peer.0 (ap Err is)) (λ is. noted.unknown_instance.0 (ap Err is))
