use Rattle.mon_client.specs.Network.{agents_by}
use Rattle.mon_host.proofs.Promised.{then_fails}
use Rattle.mon_commands.specs.Client.{IsAsking, PrintsAnswer}
use Rattle.mon_commands.specs.Query.{IsQuery}
use Rattle.mon_commands.proofs.Steps.{failed, follows}
use Rattle.mon_commands.proofs.client.ask.Goals as goal

pub returns-in_err-query : goal.returns-in_err-query
returns-in_err-query g c =
    let agents = (agents_by (g.N.Opens.has_opened c.args.net.now) (g.N.Opens.has_failed c.args.net.now) g.N.Wire.Wire.log) in
    let failure = c.in_err-query.field-0.0 in
    failed (IsAsking agents c.args.request c.args.asking) c.from_residual.result failure _ _ c.from_residual.ensures.1
    (then_fails (IsQuery c.args.request) (λ query. PrintsAnswer agents query c.args.asking) failure _ _ c.in_err-query.ensures)

pub returns : goal.returns
returns g c =
    let agents = (agents_by (g.N.Opens.has_opened c.args.net.now) (g.N.Opens.has_failed c.args.net.now) g.N.Wire.Wire.log) in
    follows (IsQuery c.args.request) (λ query. PrintsAnswer agents query c.args.asking) c.in_ok-query.query _ _ _ _ c.in_ok-query.ensures c.print_answer.ensures
