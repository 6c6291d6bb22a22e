use Rattle.std.proofs.Common.{◌≡◌, ℕ, Bool, arith, subst, sym, ◌∙◌}
use Rattle.std.specs.Prelude.{Result, Ok}
use Rattle.mon_client.specs.declared.fault.WalkFault.{WalkFault}
use Rattle.mon_app.specs.declared.fault.AppFault.TheVariants.{OutOfMemory}
use Rattle.mon_client.specs.declared.fault.WalkFault.TheVariants.{App}
use Rattle.mon_client.specs.declared.walking.Turned.{Turned}
use Rattle.mon_client.specs.Walk.{AreTurns, IsTurn, SaysWhether, name_in, question_after}
use Rattle.mon_client.proofs.Askings.{fault_is}
use Rattle.mon_client.proofs.Walks.{Both, IsAt, all_turns, ends, fails, goes_on, no_turn}
use Rattle.mon_client.proofs.walking.walk_through.Goals as goal

pub returns-in_err-last-clause-walk : goal.returns-in_err-last-clause-walk
returns-in_err-last-clause-walk g c =
    no_turn (g.S.NameTexts.shown c.args.names.now) (question_after c.args.asked.now) c.args.asked.now.start.now (g.W.Wire.log c.args.wire.now) (g.H.Host.log c.args.host.now) c.from_residual.result
    (fault_is c.from_residual.result (App OutOfMemory) c.from_residual.ensures.1)

pub returns-in_err-name-clause-walk : goal.returns-in_err-name-clause-walk
returns-in_err-name-clause-walk g c =
    let at = c.loop-request_id in
    let fault = c.in_err-name.field-0.0 in
    let is = fault_is c.from_residual-in_err-name.result fault c.from_residual-in_err-name.ensures.1 in
    subst (λ (r : Result Bool WalkFault). Both (λ log said. AreTurns (g.S.NameTexts.shown c.args.names.now) (question_after c.args.asked.now) c.args.asked.now.start.now log said r)
    (g.W.Wire.log c.args.wire.now) (g.W.Wire.log c.walk_on.new.wire) (g.H.Host.log c.args.host.now) (g.H.Host.log c.walk_on.new.host)) (sym is)
    (fails (g.S.NameTexts.shown c.args.names.now) (question_after c.args.asked.now) c.args.asked.now.start.now at.last at.request_id (g.W.Wire.log c.args.wire.now) (g.W.Wire.log at.wire) (g.W.Wire.log c.walk_on.new.wire)
    (g.H.Host.log c.args.host.now) (g.H.Host.log at.host) (g.H.Host.log c.walk_on.new.host) fault at.invariant.walked c.loop-request_id-test.true c.in_err-name.ensures.turn)

pub returns-in-Over-clause-walk : goal.returns-in-Over-clause-walk
returns-in-Over-clause-walk g c =
    let at = c.loop-request_id in
    let turn = subst (λ (t : Turned). Both (λ log said. IsTurn (g.S.NameTexts.shown c.args.names.now) (question_after c.args.asked.now at.request_id at.last) c.args.asked.now.start.now at.last said log (name_in (Ok t))
    × SaysWhether said (Ok t)) (g.W.Wire.log at.wire) (g.W.Wire.log c.walk_on.new.wire) (g.H.Host.log at.host) (g.H.Host.log c.walk_on.new.host)) c.in-Over.is c.in_ok-name.ensures.turn in
    ends (g.S.NameTexts.shown c.args.names.now) (question_after c.args.asked.now) c.args.asked.now.start.now at.last at.request_id (g.W.Wire.log c.args.wire.now) (g.W.Wire.log at.wire) (g.W.Wire.log c.walk_on.new.wire)
    (g.H.Host.log c.args.host.now) (g.H.Host.log at.host) (g.H.Host.log c.walk_on.new.host) c.in-Over.printed c.is_either.result at.invariant.walked c.loop-request_id-test.true turn c.is_either.ensures

pub loop-request_id-preserved : goal.loop-request_id-preserved
loop-request_id-preserved g c =
    let at = c.loop-request_id in
    let turn = subst (λ (t : Turned). Both (λ log said. IsTurn (g.S.NameTexts.shown c.args.names.now) (question_after c.args.asked.now at.request_id at.last) c.args.asked.now.start.now at.last said log (name_in (Ok t))
    × SaysWhether said (Ok t)) (g.W.Wire.log at.wire) (g.W.Wire.log c.walk_on.new.wire) (g.H.Host.log at.host) (g.H.Host.log c.walk_on.new.host)) c.in-On.is c.in_ok-name.ensures.turn in
    record {
      walked = goes_on (g.S.NameTexts.shown c.args.names.now) (question_after c.args.asked.now) c.args.asked.now.start.now at.last c.in-On.name at.request_id
          (g.W.Wire.log c.args.wire.now) (g.W.Wire.log at.wire) (g.W.Wire.log c.walk_on.new.wire) (g.H.Host.log c.args.host.now) (g.H.Host.log at.host) (g.H.Host.log c.walk_on.new.host) at.invariant.walked turn;
      failures = c.in_ok-name.ensures.failures ∙ at.invariant.failures;
    }

pub returns-clause-walk : goal.returns-clause-walk
returns-clause-walk g c =
    let at = c.loop-request_id in
    let full : at.request_id ≡ 65536 = omega (arith, c.loop-request_id-test.false, at.auto.request_id-end) in
    let walked = subst (λ (n : ℕ). IsAt (g.S.NameTexts.shown c.args.names.now) (question_after c.args.asked.now) c.args.asked.now.start.now n at.last (g.W.Wire.log c.args.wire.now) (g.W.Wire.log at.wire)
    (g.H.Host.log c.args.host.now) (g.H.Host.log at.host)) full at.invariant.walked in
    all_turns (g.S.NameTexts.shown c.args.names.now) (question_after c.args.asked.now) c.args.asked.now.start.now at.last (g.W.Wire.log c.args.wire.now) (g.W.Wire.log at.wire)
    (g.H.Host.log c.args.host.now) (g.H.Host.log at.host) walked
