use Rattle.std.proofs.Common.{subst, sym}
use Rattle.std.specs.Prelude.{Result}
use Rattle.mon_client.specs.declared.fault.WalkFault.{WalkFault}
use Rattle.mon_client.specs.declared.fault.WalkFault.TheVariants.{App}
use Rattle.mon_client.specs.declared.walking.Turned.{Turned}
use Rattle.mon_client.specs.Walk.{IsTurn, SaysWhether, name_in, question_after}
use Rattle.mon_client.proofs.Askings.{fault_is}
use Rattle.mon_client.proofs.Walks.{Both, fault_of_turn}
use Rattle.mon_client.proofs.walking.walk_on.Goals as goal

pub returns-in_err-found-clause-turn : goal.returns-in_err-found-clause-turn
returns-in_err-found-clause-turn g c =
    let q = question_after c.args.turn.now.asked c.args.turn.now.request_id c.args.turn.now.last.now in
    let is = fault_is c.from_residual.result (App c.in_err-found.field-0.0) c.from_residual.ensures.1 in
    let text = g.H.Host.log c.args.host.now in
    let before = g.W.Wire.log c.args.wire.now in
    let after = g.W.Wire.log c.after.new.wire in
    subst (λ (r : Result Turned WalkFault). Both (λ log said. IsTurn (g.S.NameTexts.shown c.args.names.now) q c.args.turn.now.asked.start.now c.args.turn.now.last.now said log (name_in r) × SaysWhether said r) before after text text) (sym is)
    (fault_of_turn (g.S.NameTexts.shown c.args.names.now) q c.args.turn.now.asked.start.now c.args.turn.now.last.now before after text c.in_err-found.field-0.0 c.in_err-found.ensures.answer)
