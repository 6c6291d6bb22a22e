use Rattle.mon_agent.specs.State.{policy_of, settings_of}
use Rattle.mon_serving.specs.Served.{AnswersIt, stands}
use Rattle.mon_commands.proofs.Servings.{came, none_came}
use Rattle.mon_commands.proofs.agent.serve_next.Goals as goal

pub returns-in_err-served-clause-served : goal.returns-in_err-served-clause-served
returns-in_err-served-clause-served g c =
    let Answers = AnswersIt g.D.Device.held g.D.Device.failed g.D.Device.refuses (policy_of c.args.agent.now) (settings_of c.args.agent.now) in
    none_came Answers (stands c.args.agent.now) (stands c.serve_one.new.agent) c.in_err-served.field-0.0 c.from_residual.result (g.H.Host.log c.args.host.now)
    (g.P.Port.log c.args.port.now) (g.P.Port.log c.serve_one.new.port) (g.P.Port.failures c.args.port.now) (g.P.Port.failures c.serve_one.new.port)
    c.from_residual.ensures.1 c.in_err-served.ensures.served

pub returns-clause-served : goal.returns-clause-served
returns-clause-served g c =
    let Answers = AnswersIt g.D.Device.held g.D.Device.failed g.D.Device.refuses (policy_of c.args.agent.now) (settings_of c.args.agent.now) in
    came Answers (stands c.args.agent.now) (stands c.serve_one.new.agent) c.in_ok-served.served (g.H.Host.log c.args.host.now) (g.H.Host.log c.tell_untaken.new.host)
    (g.P.Port.log c.args.port.now) (g.P.Port.log c.serve_one.new.port) (g.P.Port.failures c.args.port.now) (g.P.Port.failures c.serve_one.new.port)
    c.in_ok-served.ensures.served c.tell_untaken.ensures
