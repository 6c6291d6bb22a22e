use Rattle.std.proofs.Common.{◌≡◌, ◌++◌, [], List, ℤ, rules, map, ap, ◌∙◌, sym, subst}
use Rattle.std.specs.Prelude.{IfOk}
use Rattle.mon_pdu.specs.declared.message.Binding.{Binding}
use Rattle.mon_pdu.specs.Sizes.{with_bindings}
use Rattle.mon_mib.specs.Search.{IsSeenIn, known_in}
use Rattle.mon_agent.specs.Bulk.{names_of}
use Rattle.mon_agent.specs.ResponseBuilder.{Grown, FitsWith, IsCut, IsPut}
use Rattle.mon_agent.specs.Reply.{too_big, IsAboveLimit, IsOut}
use Rattle.mon_agent.specs.Step.{IsNextAnswer}
use Rattle.mon_agent.proofs.Read.{cut_above, same_head, sent_for}
use Rattle.mon_agent.proofs.Rounds.{cut_is, cut_same}
use Rattle.mon_agent.proofs.reading.read_next.Goals as goal

pub returns-then-all : goal.returns-then-all
returns-then-all g c =
    let sought = c.args.search.now in
    let known = known_in g.D.Device.held sought in
    let sees = IsSeenIn sought in
    let found = c.stepper.ensures known sought.families sought.view in
    let start = c.new-reply.result in
    let limit_is : start.max_message_size ≡ sought.map.settings.max_message_size = search rules in
    let reply = c.extend.new.reply in
    let all : List Binding = map found.0 (names_of c.args.asked.now) in
    let put : reply.bindings ≡ start.bindings ++ all =
    subst (λ b. IsPut (FitsWith start) (start.bindings ++ all) b reply.bindings) c.if-all.true (c.in_ok-all.ensures.put found.0 found.1) in
    let bindings : reply.bindings ≡ all = put ∙ ap (λ l. l ++ all) c.new-reply.ensures.empty in
    let head : reply.head ≡ c.args.head = c.in_ok-all.ensures.head ∙ c.new-reply.ensures.head in
    sent_for sought.map.settings.max_message_size (IsNextAnswer known sees) c.args.head found.0 c.args.asked.now found.1 (with_bindings reply.head reply.bindings) c.send.result
    (λ i. with_bindings (head i) (bindings i))
    (subst (λ (z : ℤ). IfOk c.send.result (IsOut z (with_bindings reply.head reply.bindings) (with_bindings reply.head reply.bindings)))
    (c.in_ok-all.ensures.max_message_size ∙ limit_is) c.send.ensures)

pub returns-else-all : goal.returns-else-all
returns-else-all g c =
    let sought = c.args.search.now in
    let max_message_size = sought.map.settings.max_message_size in
    let known = known_in g.D.Device.held sought in
    let sees = IsSeenIn sought in
    let found = c.stepper.ensures known sought.families sought.view in
    let start = c.new-reply.result in
    let limit_is : start.max_message_size ≡ sought.map.settings.max_message_size = search rules in
    let passed = sym c.new-reply.ensures.max_message_size ∙ limit_is in
    let reply = c.extend.new.reply in
    let all : List Binding = map found.0 (names_of c.args.asked.now) in
    let own : Grown = record { head = c.args.head; max_message_size = max_message_size; bindings = [] } in
    let cut : IsCut (FitsWith start) (start.bindings ++ all) reply.bindings =
    subst (λ b. IsPut (FitsWith start) (start.bindings ++ all) b reply.bindings) c.if-all.false (c.in_ok-all.ensures.put found.0 found.1) in
    let cut_all : IsCut (FitsWith own) all reply.bindings =
    cut_is (FitsWith own) (start.bindings ++ all) all reply.bindings (ap (λ l. l ++ all) c.new-reply.ensures.empty)
    (cut_same own start (start.bindings ++ all) reply.bindings c.new-reply.ensures.head limit_is cut) in
    let head : reply.head ≡ c.args.head = c.in_ok-all.ensures.head ∙ c.new-reply.ensures.head in
    let same : too_big c.into_message.result ≡ too_big (with_bindings c.args.head all) =
    ap too_big (c.into_message.ensures.message ∙ (λ i. with_bindings (head i) reply.bindings)) ∙ same_head c.args.head reply.bindings all in
    let above : IsAboveLimit max_message_size (with_bindings c.args.head all) = cut_above max_message_size c.args.head all reply.bindings c.grows.ensures cut_all in
    sent_for max_message_size (IsNextAnswer known sees) c.args.head found.0 c.args.asked.now found.1 (with_bindings c.args.head all) c.send_too_big.result
    (λ i. with_bindings c.args.head all)
    (subst (λ (z : ℤ). IfOk c.send_too_big.result (IsOut z (with_bindings c.args.head all) (with_bindings c.args.head all))) passed
    (c.send_too_big.ensures (with_bindings c.args.head all) same
    (subst (λ (z : ℤ). IsAboveLimit z (with_bindings c.args.head all)) (sym passed) above)))
