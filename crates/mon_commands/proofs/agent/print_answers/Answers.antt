use Rattle.mon_commands.specs.Agent.{AreAgentSettings, IsAnswering, IsFused, IsMomentOf}
use Rattle.mon_commands.proofs.Steps.{failed, follows, silent_fails, silent_then}
use Rattle.mon_commands.proofs.agent.print_answers.Goals as goal

pub returns-in_err-agent : goal.returns-in_err-agent
returns-in_err-agent g c =
    let words = c.args.words in
    let failure = c.in_err-agent.field-0.0 in
    failed (IsAnswering words) c.from_residual-in_err-agent.result failure _ _ c.from_residual-in_err-agent.ensures.1
    (follows (AreAgentSettings words.settings.now words.boots) _ c.in_ok-told.told _ _ _ _ c.in_ok-told.ensures
    (silent_fails (IsFused c.in_ok-told.told words.scene.fuses) _ failure _ c.in_err-agent.ensures))

pub returns-in_err-at : goal.returns-in_err-at
returns-in_err-at g c =
    let words = c.args.words in
    let failure = c.in_err-at.field-0.0 in
    failed (IsAnswering words) c.from_residual-in_err-at.result failure _ _ c.from_residual-in_err-at.ensures.1
    (follows (AreAgentSettings words.settings.now words.boots) _ c.in_ok-told.told _ _ _ _ c.in_ok-told.ensures
    (silent_then (IsFused c.in_ok-told.told words.scene.fuses) _ c.in_ok-agent.agent _ _ _ c.in_ok-agent.ensures
    (silent_fails (IsMomentOf words.scene.at) _ failure _ c.in_err-at.ensures)))

pub returns : goal.returns
returns g c =
    let words = c.args.words in
    follows (AreAgentSettings words.settings.now words.boots) _ c.in_ok-told.told _ _ _ _ c.in_ok-told.ensures
    (silent_then (IsFused c.in_ok-told.told words.scene.fuses) _ c.in_ok-agent.agent _ _ _ c.in_ok-agent.ensures
    (silent_then (IsMomentOf words.scene.at) _ c.in_ok-at.at _ _ _ c.in_ok-at.ensures c.print_told.ensures))
