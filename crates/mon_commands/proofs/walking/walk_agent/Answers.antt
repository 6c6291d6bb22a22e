use Rattle.mon_client.specs.Network.{agents_by}
use Rattle.mon_commands.proofs.Walks.{walked, without_wire}
use Rattle.mon_commands.proofs.walking.walk_agent.Goals as goal

pub returns-in_err-wire : goal.returns-in_err-wire
returns-in_err-wire g c =
    let route = c.args.route.now in
    without_wire (agents_by (g.N.Opens.has_opened c.args.net.now) (g.N.Opens.has_failed c.args.net.now) g.N.Wire.Wire.log) route.agent.address (g.S.NameTexts.shown c.args.names.now) route.plan.stride route.plan.community.now route.plan.start.now c.from_residual.result
    c.in_err-wire.field-0.0 _ c.from_residual.ensures.1 c.in_err-wire.ensures.unopened c.in_err-wire.ensures.fault

pub returns : goal.returns
returns g c =
    let route = c.args.route.now in
    walked (g.N.Opens.has_opened c.args.net.now) (g.N.Opens.has_failed c.args.net.now) g.N.Wire.Wire.log route.agent.address (g.S.NameTexts.shown c.args.names.now)
    route.plan.stride route.plan.community.now route.plan.start.now c.walk.result c.in_ok-wire.wire c.walk.new.wire _ _ c.in_ok-wire.ensures.opened c.walk.ensures.walk
