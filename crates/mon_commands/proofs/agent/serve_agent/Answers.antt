use Rattle.mon_serving.specs.Network.{ports_by}
use Rattle.mon_commands.specs.Agent.{AreAgentSettings, IsSimulated}
use Rattle.mon_commands.specs.Serving.{IsServingAgent}
use Rattle.mon_commands.proofs.Steps.{failed, follows, silent_fails, silent_then}
use Rattle.mon_commands.proofs.agent.serve_agent.Goals as goal

pub returns-in_err-agent : goal.returns-in_err-agent
returns-in_err-agent g c =
    let words = c.args.words in
    let failure = c.in_err-agent.field-0.0 in
    failed (IsServingAgent (ports_by (g.L.Listens.has_opened c.args.net.now) (g.L.Listens.has_failed c.args.net.now) g.L.Port.Port.log g.L.Port.Port.failures) words) c.from_residual-in_err-agent.result failure _ _ c.from_residual-in_err-agent.ensures.1
    (follows (AreAgentSettings words.settings.now words.boots) _ c.in_ok-told.told _ _ _ _ c.in_ok-told.ensures
    (silent_fails (IsSimulated c.in_ok-told.told) _ failure _ c.in_err-agent.ensures))

pub returns : goal.returns
returns g c =
    let words = c.args.words in
    follows (AreAgentSettings words.settings.now words.boots) _ c.in_ok-told.told _ _ _ _ c.in_ok-told.ensures
    (silent_then (IsSimulated c.in_ok-told.told) _ c.in_ok-agent.agent _ _ _ c.in_ok-agent.ensures c.serve_at.ensures)
