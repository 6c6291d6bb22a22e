use Rattle.std.proofs.Common.{◌≡◌, ◌∙◌, List, length, rules, subst, sym}
use Rattle.std.specs.Prelude.{Bool}
use Rattle.mon_client.specs.Network.{agents_by}
use Rattle.mon_commands.specs.Client.{shown_if}
use Rattle.mon_commands.specs.Walking.{IsShown}
use Rattle.mon_commands.proofs.Walks.{only_one, walked_one}
use Rattle.mon_commands.proofs.walking.walk_query.Goals as goal
use Rattle.mon_host.specs.Log.{GoesOnBy}
use Rattle.mon_smi.specs.Labels.{name_text}
use Rattle.mon_smi.specs.declared.definition.Definition.{Definition}

pub returns-in_ok-labels : goal.returns-in_ok-labels
returns-in_ok-labels g c =
    let agents = (agents_by (g.N.Opens.has_opened c.args.net.now) (g.N.Opens.has_failed c.args.net.now) g.N.Wire.Wire.log) in
    let query = c.args.query.now in
    let start = c.index.result.now in
    let before = g.H.Host.log c.args.host.now in
    let after = g.H.Host.log c.walk_shown-then-query.new.host in
    let r = c.walk_shown-then-query.result in
    let one : length query.asked.items ≡ 1 = search rules in
    let named = subst (λ (defs : List Definition). GoesOnBy (λ log. IsShown agents (λ oid. name_text defs oid) query.agent c.args.stride query.community.now start log r)
    before after) c.in_ok-labels.ensures c.walk_shown-then-query.ensures in
    walked_one agents query c.args.stride query.asked.items start r before after (only_one query.asked.items start one c.index.ensures)
    (subst (λ (b : Bool). GoesOnBy (λ log. IsShown agents (shown_if b query.known) query.agent c.args.stride query.community.now start log r) before after)
    (sym c.if-query.true) named)

pub returns-else-query : goal.returns-else-query
returns-else-query g c =
    let agents = (agents_by (g.N.Opens.has_opened c.args.net.now) (g.N.Opens.has_failed c.args.net.now) g.N.Wire.Wire.log) in
    let query = c.args.query.now in
    let start = c.index.result.now in
    let before = g.H.Host.log c.args.host.now in
    let after = g.H.Host.log c.walk_shown-else-query.new.host in
    let r = c.walk_shown-else-query.result in
    let one : length query.asked.items ≡ 1 = search rules in
    walked_one agents query c.args.stride query.asked.items start r before after (only_one query.asked.items start one c.index.ensures)
    (subst (λ (b : Bool). GoesOnBy (λ log. IsShown agents (shown_if b query.known) query.agent c.args.stride query.community.now start log r) before after)
    (sym c.if-query.false) c.walk_shown-else-query.ensures)
