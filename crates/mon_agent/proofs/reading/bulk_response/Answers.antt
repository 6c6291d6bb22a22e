use Rattle.std.proofs.Common.{◌≡◌, [], rules, arith, ap, ◌∙◌, inl, inr}
use Rattle.mon_pdu.specs.declared.message.Body.TheVariants as bodies
use Rattle.mon_pdu.specs.declared.message.Message.{Message}
use Rattle.mon_pdu.specs.Sizes.{with_bindings}
use Rattle.mon_agent.specs.Bulk.{full_list}
use Rattle.mon_agent.specs.ResponseBuilder.{Grown, FitsWith}
use Rattle.mon_agent.specs.Reply.{answered}
use Rattle.mon_agent.proofs.Longest.{longest}
use Rattle.mon_agent.proofs.Rounds.{ended_same, fits_same}
use Rattle.mon_agent.proofs.reading.bulk_response.Goals as goal

pub returns-clause-reading : goal.returns-clause-reading
returns-clause-reading g c =
    let m : Message = record { community = c.args.community; body = bodies.Bulk c.args.request } in
    let start : Grown = record { head = answered m []; max_message_size = c.args.search.now.map.settings.max_message_size; bindings = [] } in
    let reply = c.bulk.new.reply in
    let head : c.new-reply.result.head ≡ answered m [] = search rules in
    let max_message_size : c.new-reply.result.max_message_size ≡ c.args.search.now.map.settings.max_message_size = search rules in
    let head_now : reply.head ≡ answered m [] = c.in_ok-bulk.ensures.head ∙ head in
    let limit_now : reply.max_message_size ≡ c.args.search.now.map.settings.max_message_size = c.in_ok-bulk.ensures.max_message_size ∙ max_message_size in (
      reply.bindings,
      (λ next steps. longest (FitsWith start)
          (λ bindings more fits. omega (arith, c.grows.ensures (answered m []) bindings more, fits))
          (full_list next c.args.request.non_repeaters c.args.request.max_repetitions c.args.request.bindings) reply.bindings
          (elim c.invariants.ensures [ inl none ↦ inl none | inr fits ↦ inr (fits_same start reply reply.bindings head_now limit_now fits) ])
          (ended_same start c.new-reply.result _ reply.bindings head max_message_size (c.in_ok-bulk.ensures.put next steps))),
      ap (λ (h : Message). with_bindings h reply.bindings) head_now,
    )
