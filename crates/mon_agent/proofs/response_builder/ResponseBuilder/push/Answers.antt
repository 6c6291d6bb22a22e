use Rattle.std.proofs.Common.{true, false, [], ◌∷◌, ◌++◌, refl, sym, ap, subst, ◌∙◌}
use Rattle.mon_agent.specs.ResponseBuilder.{Grown, IsSized}
use Rattle.mon_agent.proofs.Rounds.{not_full, unless_err}
use Rattle.mon_agent.proofs.response_builder.ResponseBuilder.push.Goals as goal

pub returns-then-not-has_room-clause-head : goal.returns-then-not-has_room-clause-head
returns-then-not-has_room-clause-head c = refl

pub returns-then-not-has_room-clause-max_message_size : goal.returns-then-not-has_room-clause-max_message_size
returns-then-not-has_room-clause-max_message_size c = refl

pub returns-then-not-has_room-clause-more : goal.returns-then-not-has_room-clause-more
returns-then-not-has_room-clause-more c = not_full

pub returns-in_err-push-clause-head : goal.returns-in_err-push-clause-head
returns-in_err-push-clause-head c = ap (λ (g : Grown). g.head) c.self.view_is

pub returns-in_err-push-clause-max_message_size : goal.returns-in_err-push-clause-max_message_size
returns-in_err-push-clause-max_message_size c = ap (λ (g : Grown). g.max_message_size) c.self.view_is

pub returns-clause-head : goal.returns-clause-head
returns-clause-head c = ap (λ (g : Grown). g.head) c.self.view_is

pub returns-clause-max_message_size : goal.returns-clause-max_message_size
returns-clause-max_message_size c = ap (λ (g : Grown). g.max_message_size) c.self.view_is

pub returns-in_err-push-clause-more : goal.returns-in_err-push-clause-more
returns-in_err-push-clause-more c = unless_err c.from_residual.result true c.from_residual.ensures.0

pub returns-in_err-push-clause-full : goal.returns-in_err-push-clause-full
returns-in_err-push-clause-full c = unless_err c.from_residual.result false c.from_residual.ensures.0

pub returns-clause-full : goal.returns-clause-full
returns-clause-full c = λ is. absurd cc

pub returns-clause-more : goal.returns-clause-more
returns-clause-more c = λ _. c.in_ok-push.ensures.items ∙ ap (λ (g : Grown). g.bindings ++ c.args.binding ∷ []) c.self.view_is

pub invariant_of-self : goal.invariant_of-self
invariant_of-self c =
    subst (λ bindings. IsSized c.self.inside.head c.self.inside.max_message_size bindings c.self.inside.list) (sym c.in_err-push.ensures.items) c.self.invariant
