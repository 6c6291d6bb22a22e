use Rattle.std.proofs.Common.{◌≡◌, ◌<◌, ◌++◌, ◌∷◌, [], true, arith, length, append-nil, get_or, refl, sym, ap, ◌∙◌}
use Rattle.std.specs.Prelude.{Ok}
use Rattle.std.proofs.lemmas.Result.{IfOk-from_err}
use Rattle.mon_pdu.specs.declared.message.Binding.{Binding}
use Rattle.mon_agent.specs.ResponseBuilder.{FitsWith}
use Rattle.mon_agent.proofs.Rounds.{cut_same, cut_at, more_at, answers, all_put, one_longer, moved, not_full, unless_err}
use Rattle.mon_agent.proofs.bulk.extend.Goals as goal

pub returns-then-not-branch-clause-put : goal.returns-then-not-branch-clause-put
returns-then-not-branch-clause-put g c = λ next steps.
    let at = c.loop-binding in
    let found = c.in_ok-found.found in
    let asked = c.args.asked.now in
    let before = c.args.reply.now.bindings in
    let lt : at.binding-index < length asked = c.loop-binding-test.true in
    let full : (c.push.new.self.bindings ≡ at.reply.bindings) × ¬ (FitsWith at.reply (at.reply.bindings ++ found ∷ [])) =
    c.push.ensures.full (c.in_ok-push.was ∙ ap Ok c.if-not-branch.true) in
    let one : found ≡ next (get_or asked at.binding-index c.binding-item.result).name =
    c.in_ok-found.ensures.only next (moved g.D.Device.held next at.invariant.stays steps) ∙ ap (λ (b : Binding). next b.name) c.binding-item.is in
    rw full.0 (cut_same c.args.reply.now at.reply (before ++ answers next asked) at.reply.bindings at.invariant.head at.invariant.max_message_size
    (cut_at next (FitsWith at.reply) before asked at.reply.bindings at.binding-index c.binding-item.result found lt (at.invariant.put next steps) one full.1))

pub loop-binding-preserved : goal.loop-binding-preserved
loop-binding-preserved g c =
    let at = c.loop-binding in
    let found = c.in_ok-found.found in
    let asked = c.args.asked.now in
    let lt : at.binding-index < length asked = c.loop-binding-test.true in
    let more : c.push.new.self.bindings ≡ at.reply.bindings ++ found ∷ [] = c.push.ensures.more (c.in_ok-push.was ∙ ap Ok c.if-not-branch.false) in
    record {
      head = c.push.ensures.head ∙ at.invariant.head;
      max_message_size = c.push.ensures.max_message_size ∙ at.invariant.max_message_size;
      long = one_longer at.reply.bindings c.push.new.self.bindings found (length c.args.reply.now.bindings) at.binding-index more at.invariant.long;
      put = λ next steps. more ∙ more_at next c.args.reply.now.bindings asked at.reply.bindings at.binding-index c.binding-item.result found lt
          (at.invariant.put next steps) (c.in_ok-found.ensures.only next (moved g.D.Device.held next at.invariant.stays steps) ∙ ap (λ (b : Binding). next b.name) c.binding-item.is);
      stays = c.step.ensures.stays ∙ at.invariant.stays;
    }

pub returns-in_err-found-clause-stays : goal.returns-in_err-found-clause-stays
returns-in_err-found-clause-stays g c = c.step.ensures.stays ∙ c.loop-binding.invariant.stays

pub returns-in_err-found-clause-head : goal.returns-in_err-found-clause-head
returns-in_err-found-clause-head g c = c.loop-binding.invariant.head

pub returns-in_err-found-clause-max_message_size : goal.returns-in_err-found-clause-max_message_size
returns-in_err-found-clause-max_message_size g c = c.loop-binding.invariant.max_message_size

pub returns-in_err-found-clause-put : goal.returns-in_err-found-clause-put
returns-in_err-found-clause-put g c = λ next steps. IfOk-from_err c.from_residual.result _ c.from_residual.ensures.0

pub returns-in_err-found-clause-long : goal.returns-in_err-found-clause-long
returns-in_err-found-clause-long g c = unless_err c.from_residual.result true c.from_residual.ensures.0

pub returns-in_err-push-clause-stays : goal.returns-in_err-push-clause-stays
returns-in_err-push-clause-stays g c = c.step.ensures.stays ∙ c.loop-binding.invariant.stays

pub returns-in_err-push-clause-head : goal.returns-in_err-push-clause-head
returns-in_err-push-clause-head g c = c.push.ensures.head ∙ c.loop-binding.invariant.head

pub returns-in_err-push-clause-max_message_size : goal.returns-in_err-push-clause-max_message_size
returns-in_err-push-clause-max_message_size g c = c.push.ensures.max_message_size ∙ c.loop-binding.invariant.max_message_size

pub returns-in_err-push-clause-put : goal.returns-in_err-push-clause-put
returns-in_err-push-clause-put g c = λ next steps. IfOk-from_err c.from_residual-in_err-push.result _ c.from_residual-in_err-push.ensures.0

pub returns-in_err-push-clause-long : goal.returns-in_err-push-clause-long
returns-in_err-push-clause-long g c = unless_err c.from_residual-in_err-push.result true c.from_residual-in_err-push.ensures.0

pub returns-then-not-branch-clause-stays : goal.returns-then-not-branch-clause-stays
returns-then-not-branch-clause-stays g c = c.step.ensures.stays ∙ c.loop-binding.invariant.stays

pub returns-then-not-branch-clause-head : goal.returns-then-not-branch-clause-head
returns-then-not-branch-clause-head g c = c.push.ensures.head ∙ c.loop-binding.invariant.head

pub returns-then-not-branch-clause-max_message_size : goal.returns-then-not-branch-clause-max_message_size
returns-then-not-branch-clause-max_message_size g c = c.push.ensures.max_message_size ∙ c.loop-binding.invariant.max_message_size

pub returns-clause-stays : goal.returns-clause-stays
returns-clause-stays g c = c.loop-binding.invariant.stays

pub returns-clause-head : goal.returns-clause-head
returns-clause-head g c = c.loop-binding.invariant.head

pub returns-clause-max_message_size : goal.returns-clause-max_message_size
returns-clause-max_message_size g c = c.loop-binding.invariant.max_message_size

pub returns-then-not-branch-clause-long : goal.returns-then-not-branch-clause-long
returns-then-not-branch-clause-long g c = not_full

pub returns-clause-put : goal.returns-clause-put
returns-clause-put g c = λ next steps.
    all_put next c.args.reply.now.bindings c.args.asked.now c.loop-binding.reply.bindings c.loop-binding.binding-index c.loop-binding-test.false
    (c.loop-binding.invariant.put next steps)

pub loop-binding-init : goal.loop-binding-init
loop-binding-init g c =
    record { stays = refl; head = refl; max_message_size = refl; long = omega arith; put = λ next steps. sym (append-nil c.args.reply.now.bindings) }
