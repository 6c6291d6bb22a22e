use Rattle.mon_client.specs.Network.{agents_by}
use Rattle.mon_commands.specs.Client.{IsAnswered, PrintsAnswer}
use Rattle.mon_commands.proofs.Steps.{failed, silent_fails}
use Rattle.mon_commands.proofs.client.print_answer.Goals as goal

pub returns-in_err-text : goal.returns-in_err-text
returns-in_err-text g c =
    let agents = (agents_by (g.N.Opens.has_opened c.args.net.now) (g.N.Opens.has_failed c.args.net.now) g.N.Wire.Wire.log) in
    let failure = c.in_err-text.field-0.0 in
    failed (PrintsAnswer agents c.args.query.now c.args.asking) c.from_residual.result failure _ _ c.from_residual.ensures.1
    (silent_fails (IsAnswered agents c.args.query.now c.args.asking) _ failure _ c.in_err-text.ensures)
