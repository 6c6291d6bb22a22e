use Rattle.std.proofs.Common.{◌≡◌}
use Rattle.mon_agent.specs.State.{policy_of, settings_of}
use Rattle.mon_serving.specs.Served.{AnswersIt, stands}
use Rattle.mon_commands.specs.Serving.{AreServed}
use Rattle.mon_commands.proofs.Servings.{Meanwhile}
use Rattle.mon_commands.proofs.agent.serve_all.Given as goal

-- this many datagrams came
abbrev pub invariant-loop : goal.invariant-loop
invariant-loop g l = record {
  served : Meanwhile (λ at_port log. AreServed (AnswersIt g.D.Device.held g.D.Device.failed g.D.Device.refuses (policy_of l.fn.agent) (settings_of l.fn.agent)) l.counter
      (stands l.fn.agent) (stands l.agent) at_port log) (g.H.Host.log l.fn.host) (g.H.Host.log l.host)
      (g.P.Port.log l.fn.port) (g.P.Port.log l.port) (g.P.Port.failures l.fn.port) (g.P.Port.failures l.port);
  policy : policy_of l.agent ≡ policy_of l.fn.agent;
  settings : settings_of l.agent ≡ settings_of l.fn.agent;
}
