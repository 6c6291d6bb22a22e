use Rattle.mon_serving.specs.Network.{ports_by}
use Rattle.mon_serving.specs.Served.{stands}
use Rattle.mon_commands.proofs.Heard.{deaf, heard}
use Rattle.mon_commands.proofs.agent.serve_at.Goals as goal

pub returns-in_err-port : goal.returns-in_err-port
returns-in_err-port g c =
    deaf (ports_by (g.L.Listens.has_opened c.args.net.now) (g.L.Listens.has_failed c.args.net.now) g.L.Port.Port.log g.L.Port.Port.failures) c.args.service.listen
    c.args.service.count c.args.agent.now c.from_residual.result c.in_err-port.field-0.0 _ c.from_residual.ensures.1 c.in_err-port.ensures.unopened

pub returns : goal.returns
returns g c =
    heard (g.L.Listens.has_opened c.args.net.now) (g.L.Listens.has_failed c.args.net.now) g.L.Port.Port.log g.L.Port.Port.failures c.args.service.listen c.in_ok-port.at
    c.args.service.count c.args.agent.now (stands c.serve_all.new.agent) c.serve_all.result c.in_ok-port.port c.serve_all.new.port _ _ _ c.in_ok-port.ensures.opened
    c.tell_port.ensures c.serve_all.ensures
