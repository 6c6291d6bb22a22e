use Rattle.mon_commands.specs.Query.{IsQuery, IsWhom}
use Rattle.mon_commands.proofs.Steps.{failed, silent_fails}
use Rattle.mon_commands.proofs.query.query_of.Goals as goal

pub returns-in_err-whom : goal.returns-in_err-whom
returns-in_err-whom g c =
    let failure = c.in_err-whom.field-0.0 in
    failed (IsQuery c.args.request) c.from_residual.result failure _ _ c.from_residual.ensures.1
    (silent_fails (IsWhom c.args.request) _ failure _ c.in_err-whom.ensures)
