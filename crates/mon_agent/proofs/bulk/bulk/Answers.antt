use Rattle.std.proofs.Common.{◌≡◌, ◌-◌, ◌++◌, rules, length, sym, ap, subst, ◌∙◌}
use Rattle.std.specs.Prelude.{Ok}
use Rattle.std.proofs.lemmas.Result.{IfOk-from_err}
use Rattle.mon_agent.specs.ResponseBuilder.{FitsWith, IsPut, last, more_rounds}
use Rattle.mon_agent.specs.Reply.{count_of}
use Rattle.mon_agent.proofs.Rounds.{cut_same, ended_same, above_zero, answers, at_least_one, cut_once, no_repetition, cut_round, further, on_ok, moved, part_of}
use Rattle.mon_agent.proofs.bulk.bulk.Goals as goal

pub returns-then-not-branch-clause-put : goal.returns-then-not-branch-clause-put
returns-then-not-branch-clause-put g c = λ next steps.
    let request = c.args.request.now in
    let asked = request.bindings in
    cut_once next (FitsWith c.args.reply.now) request.non_repeaters request.max_repetitions asked c.split.result.0.now c.split.result.1.now
    c.args.reply.now.bindings c.requires c.split.ensures.once c.split.ensures.repeated c.extend.new.reply.bindings
    (subst (λ all. IsPut (FitsWith c.args.reply.now) (c.args.reply.now.bindings ++ answers next c.split.result.0.now) all c.extend.new.reply.bindings)
    c.if-not-branch.true (c.in_ok-extend.ensures.put next steps))

pub returns-then-rounds-eq0-clause-put : goal.returns-then-rounds-eq0-clause-put
returns-then-rounds-eq0-clause-put g c = λ next steps.
    let request = c.args.request.now in
    let asked = request.bindings in
    let rounds : c.count-rounds.result ≡ count_of request.max_repetitions = search rules in
    no_repetition next (FitsWith c.args.reply.now) request.non_repeaters request.max_repetitions asked c.split.result.0.now c.split.result.1.now
    c.args.reply.now.bindings c.requires c.split.ensures.once c.split.ensures.repeated c.extend.new.reply.bindings
    (sym rounds ∙ c.if-rounds-eq0.true)
    (subst (λ all. IsPut (FitsWith c.args.reply.now) (c.args.reply.now.bindings ++ answers next c.split.result.0.now) all c.extend.new.reply.bindings)
    c.if-not-branch.false (c.in_ok-extend.ensures.put next steps))

pub returns-then-not-branch-2-clause-put : goal.returns-then-not-branch-2-clause-put
returns-then-not-branch-2-clause-put g c = λ next steps.
    let request = c.args.request.now in
    let asked = request.bindings in
    let rounds : c.count-rounds.result ≡ count_of request.max_repetitions = search rules in
    let middle = c.extend.new.reply in
    cut_round next (FitsWith c.args.reply.now) request.non_repeaters request.max_repetitions asked c.split.result.0.now c.split.result.1.now
    c.args.reply.now.bindings c.requires c.split.ensures.once c.split.ensures.repeated (c.count-rounds.result - 1) middle.bindings c.extend-2.new.reply.bindings
    (sym rounds ∙ above_zero c.count-rounds.result c.if-rounds-eq0.false)
    (subst (λ all. IsPut (FitsWith c.args.reply.now) (c.args.reply.now.bindings ++ answers next c.split.result.0.now) all middle.bindings)
    c.if-not-branch.false (c.in_ok-extend.ensures.put next steps))
    (cut_same c.args.reply.now middle (middle.bindings ++ answers next c.split.result.1.now) c.extend-2.new.reply.bindings c.extend.ensures.head c.extend.ensures.max_message_size
    (subst (λ all. IsPut (FitsWith middle) (middle.bindings ++ answers next c.split.result.1.now) all c.extend-2.new.reply.bindings)
    c.if-not-branch-2.true (c.in_ok-extend-2.ensures.put next (moved g.D.Device.held next c.extend.ensures.stays steps))))

pub returns-clause-put : goal.returns-clause-put
returns-clause-put g c = λ next steps.
    let request = c.args.request.now in
    let asked = request.bindings in
    let rounds : c.count-rounds.result ≡ count_of request.max_repetitions = search rules in
    let middle = c.extend.new.reply in
    let round = c.extend-2.new.reply in
    on_ok c.repeat_all.result
    (λ ended. further next (FitsWith c.args.reply.now) request.non_repeaters request.max_repetitions asked c.split.result.0.now c.split.result.1.now
    c.args.reply.now.bindings c.requires c.split.ensures.once c.split.ensures.repeated (c.count-rounds.result - 1) middle.bindings round.bindings c.repeat_all.new.reply.bindings
    (sym rounds ∙ above_zero c.count-rounds.result c.if-rounds-eq0.false)
    (subst (λ all. IsPut (FitsWith c.args.reply.now) (c.args.reply.now.bindings ++ answers next c.split.result.0.now) all middle.bindings)
    c.if-not-branch.false (c.in_ok-extend.ensures.put next steps))
    (subst (λ all. IsPut (FitsWith middle) (middle.bindings ++ answers next c.split.result.1.now) all round.bindings)
    c.if-not-branch-2.false (c.in_ok-extend-2.ensures.put next (moved g.D.Device.held next c.extend.ensures.stays steps)))
    (ended_same c.args.reply.now round (round.bindings ++ more_rounds next (c.count-rounds.result - 1) (last (length c.split.result.1.now) round.bindings))
    c.repeat_all.new.reply.bindings (c.extend-2.ensures.head ∙ c.extend.ensures.head) (c.extend-2.ensures.max_message_size ∙ c.extend.ensures.max_message_size) ended))
    (c.repeat_all.ensures.put next (moved g.D.Device.held next (c.extend-2.ensures.stays ∙ c.extend.ensures.stays) steps))

pub returns-in_err-extend-clause-head : goal.returns-in_err-extend-clause-head
returns-in_err-extend-clause-head g c = c.extend.ensures.head

pub returns-then-not-branch-clause-head : goal.returns-then-not-branch-clause-head
returns-then-not-branch-clause-head g c = c.extend.ensures.head

pub returns-then-rounds-eq0-clause-head : goal.returns-then-rounds-eq0-clause-head
returns-then-rounds-eq0-clause-head g c = c.extend.ensures.head

pub returns-in_err-extend-2-clause-head : goal.returns-in_err-extend-2-clause-head
returns-in_err-extend-2-clause-head g c = c.extend-2.ensures.head ∙ c.extend.ensures.head

pub returns-then-not-branch-2-clause-head : goal.returns-then-not-branch-2-clause-head
returns-then-not-branch-2-clause-head g c = c.extend-2.ensures.head ∙ c.extend.ensures.head

pub returns-clause-head : goal.returns-clause-head
returns-clause-head g c = c.repeat_all.ensures.head ∙ (c.extend-2.ensures.head ∙ c.extend.ensures.head)

pub returns-in_err-extend-clause-max_message_size : goal.returns-in_err-extend-clause-max_message_size
returns-in_err-extend-clause-max_message_size g c = c.extend.ensures.max_message_size

pub returns-then-not-branch-clause-max_message_size : goal.returns-then-not-branch-clause-max_message_size
returns-then-not-branch-clause-max_message_size g c = c.extend.ensures.max_message_size

pub returns-then-rounds-eq0-clause-max_message_size : goal.returns-then-rounds-eq0-clause-max_message_size
returns-then-rounds-eq0-clause-max_message_size g c = c.extend.ensures.max_message_size

pub returns-in_err-extend-2-clause-max_message_size : goal.returns-in_err-extend-2-clause-max_message_size
returns-in_err-extend-2-clause-max_message_size g c = c.extend-2.ensures.max_message_size ∙ c.extend.ensures.max_message_size

pub returns-then-not-branch-2-clause-max_message_size : goal.returns-then-not-branch-2-clause-max_message_size
returns-then-not-branch-2-clause-max_message_size g c = c.extend-2.ensures.max_message_size ∙ c.extend.ensures.max_message_size

pub returns-clause-max_message_size : goal.returns-clause-max_message_size
returns-clause-max_message_size g c = c.repeat_all.ensures.max_message_size ∙ (c.extend-2.ensures.max_message_size ∙ c.extend.ensures.max_message_size)

pub returns-in_err-extend-clause-put : goal.returns-in_err-extend-clause-put
returns-in_err-extend-clause-put g c = λ next steps. IfOk-from_err c.from_residual.result _ c.from_residual.ensures.0

pub returns-in_err-extend-2-clause-put : goal.returns-in_err-extend-2-clause-put
returns-in_err-extend-2-clause-put g c = λ next steps. IfOk-from_err c.from_residual-in_err-extend-2.result _ c.from_residual-in_err-extend-2.ensures.0

pub overflow_sub-rounds : goal.overflow_sub-rounds
overflow_sub-rounds g c = at_least_one c.count-rounds.result c.if-rounds-eq0.false

pub repeat_all-requires : goal.repeat_all-requires
repeat_all-requires g c =
    part_of (length c.extend-2.new.reply.bindings) (length c.extend.new.reply.bindings) (length c.split.result.1.now)
    (c.extend-2.ensures.long (c.in_ok-extend-2.was ∙ ap Ok c.if-not-branch-2.false))
