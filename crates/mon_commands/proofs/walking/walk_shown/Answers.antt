use Rattle.std.proofs.Common.{List}
use Rattle.std.specs.Prelude.{Err}
use Rattle.mon_client.specs.Network.{agents_by}
use Rattle.mon_commands.specs.Walking.{IsShown, IsWalkAt}
use Rattle.mon_host.proofs.Promised.{weaker}
use Rattle.mon_host.specs.AtHost.{AtHost}
use Rattle.mon_commands.proofs.walking.walk_shown.Goals as goal

pub returns-in-Err : goal.returns-in-Err
returns-in-Err g c =
    let agents = (agents_by (g.N.Opens.has_opened c.args.net.now) (g.N.Opens.has_failed c.args.net.now) g.N.Wire.Wire.log) in
    let route = c.args.route.now in
    let plan = route.plan in
    let show = g.S.NameTexts.shown c.args.names.now in
    weaker (λ (log : List AtHost). IsWalkAt agents route.agent.address show plan.stride plan.community.now plan.start.now log (Err c.in-Err.fault))
    (λ log. IsShown agents show route.agent plan.stride plan.community.now plan.start.now log (Err c.walk_failure.result)) _ _
    (λ log is. (c.in-Err.fault, c.walk_failure.ensures, is)) c.in-Err.ensures
