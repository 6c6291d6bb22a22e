use Rattle.std.proofs.Common.{◌≡◌, ◌<◌, ◌^◌, rules, arith, w32, to_z, of_z, ℤ, length, refl, sym, ap, subst, ◌∙◌}
use Rattle.std.specs.Prelude.{All}
use Rattle.mon_pdu.specs.declared.message.Message.{Message}
use Rattle.mon_pdu.specs.Grammar.{bindings_of}
use Rattle.mon_vacm.specs.View.{IsInView}
use Rattle.mon_mib.specs.Assignment.{IsSetPlan}
use Rattle.mon_mib.specs.Map.{known_by}
use Rattle.mon_mib.specs.Refusal.{IsAccepted, IsSetFault}
use Rattle.mon_agent.specs.Assigned.{greatest}
use Rattle.mon_agent.specs.Ready.{IsReadyToSet}
use Rattle.mon_agent.specs.Reply.{count_of, too_big, IsWithinLimit, IsAboveLimit}
use Rattle.mon_agent.proofs.Sent.{numbered, oversized, planned, ready_with, refused, roomy, roomy_with}
use Rattle.mon_agent.proofs.Shrinking.{greatest_is, refused_shorter}
use Rattle.mon_agent.proofs.agent.Agent.prepare_set.Goals as goal

pub returns-in_default-clause-ready : goal.returns-in_default-clause-ready
returns-in_default-clause-ready g c =
    let D = g.D.Device in
    let mib = c.args.self.now.mib in
    let max_message_size = mib.settings.max_message_size in
    let m = c.args.message in
    let known = known_by D.held mib c.args.moment in
    let sees = IsInView c.args.self.now.policy.families c.args.access.view.now in
    let limit_is : to_z w32 (of_z w32 c.settings.result.now.max_message_size) ≡ max_message_size = search rules in
    let small : count_of max_message_size < 2 ^ 31 = search rules in
    let above : IsAboveLimit max_message_size (greatest m) = omega (arith, c.counts.ensures (greatest m), c.in_default.ensures.none, small) in
    ready_with (IsReadyToSet D.held D.failed D.refuses known sees mib.device m) c.send_too_big.result c.make_answer.result c.make_answer.ensures
    (oversized D.held D.failed D.refuses known mib.device sees m m (to_z w32 (of_z w32 c.settings.result.now.max_message_size)) c.send_too_big.result limit_is refl above c.send_too_big.ensures)

pub returns-in_default-clause-room : goal.returns-in_default-clause-room
returns-in_default-clause-room g c = roomy_with c.send_too_big.result c.make_answer.result c.make_answer.ensures

pub returns-in_default-size_within-clause-ready : goal.returns-in_default-size_within-clause-ready
returns-in_default-size_within-clause-ready g c =
    let D = g.D.Device in
    let mib = c.args.self.now.mib in
    let max_message_size = mib.settings.max_message_size in
    let m = c.args.message in
    let known = known_by D.held mib c.args.moment in
    let sees = IsInView c.args.self.now.policy.families c.args.access.view.now in
    let limit_is : to_z w32 (of_z w32 c.settings.result.now.max_message_size) ≡ max_message_size = search rules in
    let response = c.make_return-response.result in
    let told = greatest_is m response c.in-Some.count c.in-Some.ensures.few c.in-Some.ensures.some c.make_return-response.ensures in
    let above : IsAboveLimit max_message_size response = subst (λ (z : ℤ). IsAboveLimit z response) limit_is c.in_default-size_within.ensures.above in
    ready_with (IsReadyToSet D.held D.failed D.refuses known sees mib.device m) c.send_too_big-in_default-size_within.result c.make_answer-in_default-size_within.result c.make_answer-in_default-size_within.ensures
    (oversized D.held D.failed D.refuses known mib.device sees m response (to_z w32 (of_z w32 c.settings.result.now.max_message_size)) c.send_too_big-in_default-size_within.result limit_is (ap too_big told)
    (subst (IsAboveLimit max_message_size) told above) c.send_too_big-in_default-size_within.ensures)

pub returns-in_default-size_within-clause-room : goal.returns-in_default-size_within-clause-room
returns-in_default-size_within-clause-room g c = roomy_with c.send_too_big-in_default-size_within.result c.make_answer-in_default-size_within.result c.make_answer-in_default-size_within.ensures

pub returns-in-Ok-clause-ready : goal.returns-in-Ok-clause-ready
returns-in-Ok-clause-ready g c =
    let D = g.D.Device in
    let mib = c.args.self.now.mib in
    let max_message_size = mib.settings.max_message_size in
    let m = c.args.message in
    let known = known_by D.held mib c.args.moment in
    let sees = IsInView c.args.self.now.policy.families c.args.access.view.now in
    let response = c.make_return-response.result in
    let told = greatest_is m response c.in-Some.count c.in-Some.ensures.few c.in-Some.ensures.some c.make_return-response.ensures in
    let limit_is : to_z w32 (of_z w32 c.settings.result.now.max_message_size) ≡ max_message_size = search rules in
    let fits : IsWithinLimit max_message_size response = subst (λ (z : ℤ). IsWithinLimit z response) limit_is c.in-Some-size_within.ensures.within in
    let same : c.bindings-bindings.result.now ≡ bindings_of m.body = c.bindings-bindings.ensures ∙ ap (λ (r : Message). bindings_of r.body) told in
    planned D.held D.failed D.refuses known mib.device sees m c.in-Ok.plan response c.in-Some-size_within.size c.make_assigning.result told
    (subst (IsWithinLimit max_message_size) told fits) (subst (All (IsAccepted known sees)) same c.in-Ok.ensures.accepted)
    (subst (λ bs. IsSetPlan known bs c.in-Ok.plan) same c.in-Ok.ensures.plan) c.make_assigning.ensures

pub returns-in-Ok-clause-room : goal.returns-in-Ok-clause-room
returns-in-Ok-clause-room g c =
    let D = g.D.Device in
    let mib = c.args.self.now.mib in
    let m = c.args.message in
    let known = known_by D.held mib c.args.moment in
    let response = c.make_return-response.result in
    let told = greatest_is m response c.in-Some.count c.in-Some.ensures.few c.in-Some.ensures.some c.make_return-response.ensures in
    let same : c.bindings-bindings.result.now ≡ bindings_of m.body = c.bindings-bindings.ensures ∙ ap (λ (r : Message). bindings_of r.body) told in
    roomy known m c.in-Ok.plan response c.in-Some-size_within.size c.make_assigning.result told c.in-Some.ensures.few
    (subst (λ bs. IsSetPlan known bs c.in-Ok.plan) same c.in-Ok.ensures.plan) c.in-Some-size_within.ensures.size c.in-Some-size_within.ensures.small c.make_assigning.ensures

pub returns-in-Err-clause-ready : goal.returns-in-Err-clause-ready
returns-in-Err-clause-ready g c =
    let D = g.D.Device in
    let mib = c.args.self.now.mib in
    let max_message_size = mib.settings.max_message_size in
    let m = c.args.message in
    let known = known_by D.held mib c.args.moment in
    let sees = IsInView c.args.self.now.policy.families c.args.access.view.now in
    let response = c.make_return-response.result in
    let told = greatest_is m response c.in-Some.count c.in-Some.ensures.few c.in-Some.ensures.some c.make_return-response.ensures in
    let limit_is : to_z w32 (of_z w32 c.settings.result.now.max_message_size) ≡ max_message_size = search rules in
    let fits : IsWithinLimit max_message_size response = subst (λ (z : ℤ). IsWithinLimit z response) limit_is c.in-Some-size_within.ensures.within in
    let same : c.bindings-bindings.result.now ≡ bindings_of m.body = c.bindings-bindings.ensures ∙ ap (λ (r : Message). bindings_of r.body) told in
    ready_with (IsReadyToSet D.held D.failed D.refuses known sees mib.device m) c.make_refusal.result c.make_answer-in-Err.result c.make_answer-in-Err.ensures
    (refused D.held D.failed D.refuses known mib.device sees m c.args.self.now.policy response c.in-Err.fault c.make_refusal.result
    (refused_shorter c.shrinks.ensures (greatest m) refl) told (subst (IsWithinLimit max_message_size) told fits)
    (subst (λ bs. IsSetFault known sees bs c.in-Err.fault) same c.in-Err.ensures.refused) c.make_refusal.ensures)

pub returns-in-Err-clause-room : goal.returns-in-Err-clause-room
returns-in-Err-clause-room g c = roomy_with c.make_refusal.result c.make_answer-in-Err.result c.make_answer-in-Err.ensures

pub make_refusal-requires-clause-greatest : goal.make_refusal-requires-clause-greatest
make_refusal-requires-clause-greatest g c =
    let told =
    greatest_is c.args.message c.make_return-response.result c.in-Some.count c.in-Some.ensures.few c.in-Some.ensures.some c.make_return-response.ensures in
    told ∙ sym (ap greatest told)

pub make_refusal-requires-clause-number : goal.make_refusal-requires-clause-number
make_refusal-requires-clause-number g c =
    let same : c.bindings-bindings.result.now ≡ bindings_of c.make_return-response.result.body = c.bindings-bindings.ensures in
    numbered (known_by g.D.Device.held c.args.self.now.mib c.args.moment) (IsInView c.args.self.now.policy.families c.args.access.view.now)
    (bindings_of c.make_return-response.result.body) c.in-Err.fault
    (subst (λ bs. IsSetFault (known_by g.D.Device.held c.args.self.now.mib c.args.moment)
    (IsInView c.args.self.now.policy.families c.args.access.view.now) bs c.in-Err.fault) same c.in-Err.ensures.refused)

pub make_refusal-requires-clause-size : goal.make_refusal-requires-clause-size
make_refusal-requires-clause-size g c = c.in-Some-size_within.ensures.size

pub make_refusal-requires-clause-small : goal.make_refusal-requires-clause-small
make_refusal-requires-clause-small g c = c.in-Some-size_within.ensures.small

pub make_refusal-requires-clause-few : goal.make_refusal-requires-clause-few
make_refusal-requires-clause-few g c =
    let told =
    greatest_is c.args.message c.make_return-response.result c.in-Some.count c.in-Some.ensures.few c.in-Some.ensures.some c.make_return-response.ensures in
    subst (λ (r : Message). length (bindings_of r.body) < 2 ^ 31) (sym told) c.in-Some.ensures.few
