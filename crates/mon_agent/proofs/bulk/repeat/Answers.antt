use Rattle.std.proofs.Common.{◌≡◌, ◌≤◌, ◌<◌, ◌-◌, ◌++◌, ◌∷◌, [], true, length, get_or, ap, ◌∙◌}
use Rattle.std.specs.Prelude.{Ok}
use Rattle.std.proofs.lemmas.Result.{IfOk-from_err}
use Rattle.mon_agent.specs.ResponseBuilder.{FitsWith, last}
use Rattle.mon_agent.proofs.Rounds.{cut_same, cut_at, more_at, name_back, answers, all_put, as_wide, in_last, last_within, some_of, moved, not_full, unless_err}
use Rattle.mon_agent.proofs.bulk.repeat.Goals as goal

pub returns-then-not-branch-clause-put : goal.returns-then-not-branch-clause-put
returns-then-not-branch-clause-put g c = λ next steps.
    let at = c.loop in
    let found = c.in_ok-found.found in
    let before = c.args.reply.now.bindings in
    let width = c.args.width in
    let wide : width ≤ length before = c.requires in
    let inside : at.counter < width = c.loop-test.true in
    let lt : at.counter < length (last width before) = in_last width before at.counter wide inside in
    let full : (c.push.new.self.bindings ≡ at.reply.bindings) × ¬ (FitsWith at.reply (at.reply.bindings ++ found ∷ [])) =
    c.push.ensures.full (c.in_ok-push.was ∙ ap Ok c.if-not-branch.true) in
    let name : c.name_before.result.now ≡ (get_or at.reply.bindings (length at.reply.bindings - width) found).name = c.name_before.ensures found in
    let one : found ≡ next (get_or (last width before) at.counter found).name =
    c.in_ok-found.ensures.only next (moved g.D.Device.held next at.invariant.stays steps)
    ∙ (ap next name ∙ ap (λ b. next b.name) (name_back next before at.reply.bindings width at.counter found wide inside (at.invariant.put next steps))) in
    rw full.0 (cut_same c.args.reply.now at.reply (before ++ answers next (last width before)) at.reply.bindings at.invariant.head at.invariant.max_message_size
    (cut_at next (FitsWith at.reply) before (last width before) at.reply.bindings at.counter found found lt (at.invariant.put next steps) one full.1))

pub loop-preserved : goal.loop-preserved
loop-preserved g c =
    let at = c.loop in
    let found = c.in_ok-found.found in
    let before = c.args.reply.now.bindings in
    let width = c.args.width in
    let wide : width ≤ length before = c.requires in
    let inside : at.counter < width = c.loop-test.true in
    let more : c.push.new.self.bindings ≡ at.reply.bindings ++ found ∷ [] = c.push.ensures.more (c.in_ok-push.was ∙ ap Ok c.if-not-branch.false) in
    let name : c.name_before.result.now ≡ (get_or at.reply.bindings (length at.reply.bindings - width) found).name = c.name_before.ensures found in
    record {
      head = c.push.ensures.head ∙ at.invariant.head;
      max_message_size = c.push.ensures.max_message_size ∙ at.invariant.max_message_size;
      wide = as_wide at.reply.bindings c.push.new.self.bindings found width more at.invariant.wide;
      put = λ next steps.
          let lt : at.counter < length (last width before) = in_last width before at.counter wide inside in
          more ∙ more_at next before (last width before) at.reply.bindings at.counter found found lt (at.invariant.put next steps)
          (c.in_ok-found.ensures.only next (moved g.D.Device.held next at.invariant.stays steps)
          ∙ (ap next name ∙ ap (λ b. next b.name) (name_back next before at.reply.bindings width at.counter found wide inside (at.invariant.put next steps))));
      stays = c.step.ensures.stays ∙ at.invariant.stays;
    }

pub returns-clause-put : goal.returns-clause-put
returns-clause-put g c = λ next steps.
    let width = c.args.width in
    let before = c.args.reply.now.bindings in
    let wide : width ≤ length before = c.requires in
    all_put next before (last width before) c.loop.reply.bindings c.loop.counter (last_within width before c.loop.counter wide c.loop-test.false)
    (c.loop.invariant.put next steps)

pub name_before-requires-clause-within : goal.name_before-requires-clause-within
name_before-requires-clause-within g c = c.loop.invariant.wide

pub returns-in_err-found-clause-stays : goal.returns-in_err-found-clause-stays
returns-in_err-found-clause-stays g c = c.step.ensures.stays ∙ c.loop.invariant.stays

pub returns-in_err-found-clause-head : goal.returns-in_err-found-clause-head
returns-in_err-found-clause-head g c = c.loop.invariant.head

pub returns-in_err-found-clause-max_message_size : goal.returns-in_err-found-clause-max_message_size
returns-in_err-found-clause-max_message_size g c = c.loop.invariant.max_message_size

pub returns-in_err-found-clause-put : goal.returns-in_err-found-clause-put
returns-in_err-found-clause-put g c = λ next steps. IfOk-from_err c.from_residual.result _ c.from_residual.ensures.0

pub returns-in_err-found-clause-wide : goal.returns-in_err-found-clause-wide
returns-in_err-found-clause-wide g c = unless_err c.from_residual.result true c.from_residual.ensures.0

pub returns-in_err-push-clause-stays : goal.returns-in_err-push-clause-stays
returns-in_err-push-clause-stays g c = c.step.ensures.stays ∙ c.loop.invariant.stays

pub returns-in_err-push-clause-head : goal.returns-in_err-push-clause-head
returns-in_err-push-clause-head g c = c.push.ensures.head ∙ c.loop.invariant.head

pub returns-in_err-push-clause-max_message_size : goal.returns-in_err-push-clause-max_message_size
returns-in_err-push-clause-max_message_size g c = c.push.ensures.max_message_size ∙ c.loop.invariant.max_message_size

pub returns-in_err-push-clause-put : goal.returns-in_err-push-clause-put
returns-in_err-push-clause-put g c = λ next steps. IfOk-from_err c.from_residual-in_err-push.result _ c.from_residual-in_err-push.ensures.0

pub returns-in_err-push-clause-wide : goal.returns-in_err-push-clause-wide
returns-in_err-push-clause-wide g c = unless_err c.from_residual-in_err-push.result true c.from_residual-in_err-push.ensures.0

pub returns-then-not-branch-clause-stays : goal.returns-then-not-branch-clause-stays
returns-then-not-branch-clause-stays g c = c.step.ensures.stays ∙ c.loop.invariant.stays

pub returns-then-not-branch-clause-head : goal.returns-then-not-branch-clause-head
returns-then-not-branch-clause-head g c = c.push.ensures.head ∙ c.loop.invariant.head

pub returns-then-not-branch-clause-max_message_size : goal.returns-then-not-branch-clause-max_message_size
returns-then-not-branch-clause-max_message_size g c = c.push.ensures.max_message_size ∙ c.loop.invariant.max_message_size

pub returns-then-not-branch-clause-wide : goal.returns-then-not-branch-clause-wide
returns-then-not-branch-clause-wide g c = not_full

pub returns-clause-stays : goal.returns-clause-stays
returns-clause-stays g c = c.loop.invariant.stays

pub returns-clause-head : goal.returns-clause-head
returns-clause-head g c = c.loop.invariant.head

pub returns-clause-max_message_size : goal.returns-clause-max_message_size
returns-clause-max_message_size g c = c.loop.invariant.max_message_size

pub returns-clause-wide : goal.returns-clause-wide
returns-clause-wide g c = λ is. c.loop.invariant.wide

pub name_before-requires-clause-some : goal.name_before-requires-clause-some
name_before-requires-clause-some g c = some_of c.loop.counter c.args.width c.loop-test.true
