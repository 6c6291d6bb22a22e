use Rattle.std.proofs.Common.{List, sym, subst}
use Rattle.std.specs.Prelude.{Bool}
use Rattle.mon_client.specs.Network.{agents_by}
use Rattle.mon_smi.specs.Labels.{name_text}
use Rattle.mon_smi.specs.declared.definition.Definition.{Definition}
use Rattle.mon_commands.specs.Client.{IsAnsweredAs, shown_if}
use Rattle.mon_commands.proofs.client.answer.Goals as goal

pub returns-in_ok-labels : goal.returns-in_ok-labels
returns-in_ok-labels g c =
    let agents = (agents_by (g.N.Opens.has_opened c.args.net.now) (g.N.Opens.has_failed c.args.net.now) g.N.Wire.Wire.log) in
    let named = subst (λ (defs : List Definition). IsAnsweredAs agents (λ oid. name_text defs oid) c.args.query.now c.args.asking c.answer_shown-then-query.result)
    c.in_ok-labels.ensures c.answer_shown-then-query.ensures in
    subst (λ (b : Bool). IsAnsweredAs agents (shown_if b c.args.query.now.known) c.args.query.now c.args.asking c.answer_shown-then-query.result)
    (sym c.if-query.true) named

pub returns-else-query : goal.returns-else-query
returns-else-query g c =
    let agents = (agents_by (g.N.Opens.has_opened c.args.net.now) (g.N.Opens.has_failed c.args.net.now) g.N.Wire.Wire.log) in
    subst (λ (b : Bool). IsAnsweredAs agents (shown_if b c.args.query.now.known) c.args.query.now c.args.asking c.answer_shown-else-query.result)
    (sym c.if-query.false) c.answer_shown-else-query.ensures
