use Rattle.std.proofs.Common.{◌≡◌, ◌≤◌, ◌+◌, ◌-◌, ◌++◌, suc, true, false, length, append_assoc, append-nil, ap, sym, subst, ◌∙◌, inl, inr}
use Rattle.std.specs.Prelude.{Ok}
use Rattle.std.proofs.lemmas.Result.{IfOk-from_err}
use Rattle.mon_agent.specs.Bulk.{all_end_of_mib_view}
use Rattle.mon_agent.specs.ResponseBuilder.{FitsWith, IsCut, IsPut, last, more_rounds}
use Rattle.mon_agent.proofs.Rounds.{cut_same, cut_longer, cut_is, none_follows, none_left, no_rounds, goes_on, answers, length-answers, all_last, one_less, unrolled, moved}
use Rattle.mon_agent.proofs.bulk.repeat_all.Goals as goal

pub returns-then-all_end_of_mib_view-clause-put : goal.returns-then-all_end_of_mib_view-clause-put
returns-then-all_end_of_mib_view-clause-put g c = λ next steps.
    let at = c.loop in
    let end : all_end_of_mib_view (last c.args.width at.reply.bindings) ≡ true = sym c.all_end_of_mib_view.ensures ∙ c.if-all_end_of_mib_view.true in
    inl (sym (at.invariant.put next steps
    ∙ (ap (λ l. at.reply.bindings ++ l) (none_follows next (c.args.rounds - at.counter) (last c.args.width at.reply.bindings) end)
    ∙ append-nil at.reply.bindings)))

pub returns-then-not-branch-clause-put : goal.returns-then-not-branch-clause-put
returns-then-not-branch-clause-put g c = λ next steps.
    let at = c.loop in
    let width = c.args.width in
    let round = last width at.reply.bindings in
    let other : all_end_of_mib_view round ≡ false = sym c.all_end_of_mib_view.ensures ∙ c.if-all_end_of_mib_view.false in
    let m = c.args.rounds - (at.counter + 1) in
    let left : c.args.rounds - at.counter ≡ suc m = one_less c.args.rounds at.counter c.loop-test.true in
    let is : c.in_ok-repeat.field-0 ≡ false = c.if-not-branch.true in
    let put : IsCut (FitsWith at.reply) (at.reply.bindings ++ answers next round) c.repeat.new.reply.bindings =
    subst (λ all. IsPut (FitsWith at.reply) (at.reply.bindings ++ answers next round) all c.repeat.new.reply.bindings) is (c.in_ok-repeat.ensures.put next (moved g.D.Device.held next at.invariant.stays steps)) in
    let whole : (at.reply.bindings ++ answers next round) ++ more_rounds next m (answers next round)
    ≡ c.args.reply.now.bindings ++ more_rounds next c.args.rounds (last width c.args.reply.now.bindings) =
    unrolled next at.reply.bindings round (c.args.rounds - at.counter) m left other ∙ sym (at.invariant.put next steps) in
    inr (cut_same c.args.reply.now at.reply _ c.repeat.new.reply.bindings at.invariant.head at.invariant.max_message_size
    (cut_is (FitsWith at.reply) _ _ c.repeat.new.reply.bindings whole
    (cut_longer (FitsWith at.reply) (at.reply.bindings ++ answers next round) (more_rounds next m (answers next round)) c.repeat.new.reply.bindings put)))

pub loop-preserved : goal.loop-preserved
loop-preserved g c =
    let at = c.loop in
    let width = c.args.width in
    let round = last width at.reply.bindings in
    let other : all_end_of_mib_view round ≡ false = sym c.all_end_of_mib_view.ensures ∙ c.if-all_end_of_mib_view.false in
    let m = c.args.rounds - (at.counter + 1) in
    let left : c.args.rounds - at.counter ≡ suc m = one_less c.args.rounds at.counter c.loop-test.true in
    let wide : width ≤ length c.repeat.new.reply.bindings = c.repeat.ensures.wide (c.in_ok-repeat.was ∙ ap Ok c.if-not-branch.false) in
    record {
      head = c.repeat.ensures.head ∙ at.invariant.head;
      max_message_size = c.repeat.ensures.max_message_size ∙ at.invariant.max_message_size;
      wide = wide;
      stays = c.repeat.ensures.stays ∙ at.invariant.stays;
      put = λ next steps.
          let is : c.in_ok-repeat.field-0 ≡ true = c.if-not-branch.false in
          let put : c.repeat.new.reply.bindings ≡ at.reply.bindings ++ answers next round =
          subst (λ all. IsPut (FitsWith at.reply) (at.reply.bindings ++ answers next round) all c.repeat.new.reply.bindings) is (c.in_ok-repeat.ensures.put next (moved g.D.Device.held next at.invariant.stays steps)) in
          at.invariant.put next steps
          ∙ (sym (unrolled next at.reply.bindings round (c.args.rounds - at.counter) m left other)
          ∙ (append_assoc at.reply.bindings (answers next round) (more_rounds next m (answers next round))
          ∙ (goes_on next at.reply.bindings (answers next round) m width (length-answers next round ∙ all_last next width at.reply.bindings at.invariant.wide)
          ∙ ap (λ l. l ++ more_rounds next m (last width l)) (sym put))));
    }

pub returns-clause-put : goal.returns-clause-put
returns-clause-put g c = λ next steps.
    let at = c.loop in
    let none : c.args.rounds - at.counter ≡ 0 = none_left c.args.rounds at.counter c.loop-test.false in
    inl (sym (at.invariant.put next steps
    ∙ (ap (λ n. at.reply.bindings ++ more_rounds next n (last c.args.width at.reply.bindings)) none
    ∙ (ap (λ l. at.reply.bindings ++ l) (no_rounds next (last c.args.width at.reply.bindings)) ∙ append-nil at.reply.bindings))))

pub all_end_of_mib_view-requires : goal.all_end_of_mib_view-requires
all_end_of_mib_view-requires g c = c.loop.invariant.wide

pub repeat-requires : goal.repeat-requires
repeat-requires g c = c.loop.invariant.wide

pub returns-then-all_end_of_mib_view-clause-head : goal.returns-then-all_end_of_mib_view-clause-head
returns-then-all_end_of_mib_view-clause-head g c = c.loop.invariant.head

pub returns-then-all_end_of_mib_view-clause-max_message_size : goal.returns-then-all_end_of_mib_view-clause-max_message_size
returns-then-all_end_of_mib_view-clause-max_message_size g c = c.loop.invariant.max_message_size

pub returns-in_err-repeat-clause-head : goal.returns-in_err-repeat-clause-head
returns-in_err-repeat-clause-head g c = c.repeat.ensures.head ∙ c.loop.invariant.head

pub returns-in_err-repeat-clause-max_message_size : goal.returns-in_err-repeat-clause-max_message_size
returns-in_err-repeat-clause-max_message_size g c = c.repeat.ensures.max_message_size ∙ c.loop.invariant.max_message_size

pub returns-then-not-branch-clause-head : goal.returns-then-not-branch-clause-head
returns-then-not-branch-clause-head g c = c.repeat.ensures.head ∙ c.loop.invariant.head

pub returns-then-not-branch-clause-max_message_size : goal.returns-then-not-branch-clause-max_message_size
returns-then-not-branch-clause-max_message_size g c = c.repeat.ensures.max_message_size ∙ c.loop.invariant.max_message_size

pub returns-in_err-repeat-clause-put : goal.returns-in_err-repeat-clause-put
returns-in_err-repeat-clause-put g c = λ next steps. IfOk-from_err c.from_residual.result _ c.from_residual.ensures.0

pub returns-clause-head : goal.returns-clause-head
returns-clause-head g c = c.loop.invariant.head

pub returns-clause-max_message_size : goal.returns-clause-max_message_size
returns-clause-max_message_size g c = c.loop.invariant.max_message_size
