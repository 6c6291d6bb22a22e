use Rattle.std.proofs.Common.{◌∙◌, arith, refl}
use Rattle.std.specs.Prelude.{Ok, Err}
use Rattle.mon_agent.specs.State.{policy_of, settings_of}
use Rattle.mon_serving.specs.Served.{AnswersIt, stands}
use Rattle.mon_commands.specs.Serving.{IsNextServed}
use Rattle.mon_commands.proofs.Servings.{Meanwhile, cut_off, moved, none_served, not_begun, one_served}
use Rattle.mon_commands.proofs.agent.serve_all.Goals as goal

pub returns-in_err-room : goal.returns-in_err-room
returns-in_err-room g c =
    let Answers = AnswersIt g.D.Device.held g.D.Device.failed g.D.Device.refuses (policy_of c.args.agent.now) (settings_of c.args.agent.now) in
    not_begun Answers c.args.count (stands c.args.agent.now) c.from_residual.result (g.H.Host.log c.args.host.now) (g.P.Port.log c.args.port.now)
    (g.P.Port.failures c.args.port.now) c.from_residual.ensures.1

pub loop-init : goal.loop-init
loop-init g c =
    let Answers = AnswersIt g.D.Device.held g.D.Device.failed g.D.Device.refuses (policy_of c.args.agent.now) (settings_of c.args.agent.now) in
    record {
      served = none_served Answers (stands c.args.agent.now) (g.H.Host.log c.args.host.now) (g.P.Port.log c.args.port.now) (g.P.Port.failures c.args.port.now);
      policy = refl;
      settings = refl;
    }

pub returns-in_err-serve_next : goal.returns-in_err-serve_next
returns-in_err-serve_next g c =
    let Kinds = AnswersIt g.D.Device.held g.D.Device.failed g.D.Device.refuses in
    let Answers = Kinds (policy_of c.args.agent.now) (settings_of c.args.agent.now) in
    let fault = c.in_err-serve_next.field-0.0 in
    let ends = moved (λ p s. Meanwhile (λ at_port log. IsNextServed (Kinds p s) (stands c.loop.agent) (stands c.serve_next.new.agent) at_port log (Err fault))
    (g.H.Host.log c.loop.host) (g.H.Host.log c.serve_next.new.host) (g.P.Port.log c.loop.port) (g.P.Port.log c.serve_next.new.port)
    (g.P.Port.failures c.loop.port) (g.P.Port.failures c.serve_next.new.port))
    (policy_of c.loop.agent) (policy_of c.args.agent.now) (settings_of c.loop.agent) (settings_of c.args.agent.now) c.loop.invariant.policy c.loop.invariant.settings
    c.in_err-serve_next.ensures.served in
    cut_off Answers c.loop.counter c.args.count (stands c.args.agent.now) (stands c.loop.agent) (stands c.serve_next.new.agent) fault
    c.from_residual-in_err-serve_next.result (g.H.Host.log c.args.host.now) (g.H.Host.log c.loop.host) (g.H.Host.log c.serve_next.new.host)
    (g.P.Port.log c.args.port.now) (g.P.Port.log c.loop.port) (g.P.Port.log c.serve_next.new.port)
    (g.P.Port.failures c.args.port.now) (g.P.Port.failures c.loop.port) (g.P.Port.failures c.serve_next.new.port)
    (omega arith) c.from_residual-in_err-serve_next.ensures.1 c.loop.invariant.served ends

pub loop-preserved : goal.loop-preserved
loop-preserved g c =
    let Kinds = AnswersIt g.D.Device.held g.D.Device.failed g.D.Device.refuses in
    let Answers = Kinds (policy_of c.args.agent.now) (settings_of c.args.agent.now) in
    let turn = moved (λ p s. Meanwhile (λ at_port log. IsNextServed (Kinds p s) (stands c.loop.agent) (stands c.serve_next.new.agent) at_port log (Ok tt))
    (g.H.Host.log c.loop.host) (g.H.Host.log c.serve_next.new.host) (g.P.Port.log c.loop.port) (g.P.Port.log c.serve_next.new.port)
    (g.P.Port.failures c.loop.port) (g.P.Port.failures c.serve_next.new.port))
    (policy_of c.loop.agent) (policy_of c.args.agent.now) (settings_of c.loop.agent) (settings_of c.args.agent.now) c.loop.invariant.policy c.loop.invariant.settings
    c.in_ok-serve_next.ensures.served in
    record {
      served = one_served Answers c.loop.counter (stands c.args.agent.now) (stands c.loop.agent) (stands c.serve_next.new.agent)
          (g.H.Host.log c.args.host.now) (g.H.Host.log c.loop.host) (g.H.Host.log c.serve_next.new.host)
          (g.P.Port.log c.args.port.now) (g.P.Port.log c.loop.port) (g.P.Port.log c.serve_next.new.port)
          (g.P.Port.failures c.args.port.now) (g.P.Port.failures c.loop.port) (g.P.Port.failures c.serve_next.new.port) c.loop.invariant.served turn;
      policy = c.in_ok-serve_next.ensures.policy ∙ c.loop.invariant.policy;
      settings = c.in_ok-serve_next.ensures.settings ∙ c.loop.invariant.settings;
    }
