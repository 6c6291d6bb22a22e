use Rattle.std.proofs.Common.{[]}
use Rattle.mon_commands.specs.Replaying.{IsBuiltIn, IsReplayReport, PrintsReport}
use Rattle.mon_console.specs.Printing.{IsPrinting}
use Rattle.mon_commands.proofs.Steps.{failed, follows, silent_fails, silent_then}
use Rattle.mon_commands.proofs.recorded.replay_report.Goals as goal

pub returns-in_err-known : goal.returns-in_err-known
returns-in_err-known g c =
    let failure = c.in_err-known.field-0.0 in
    failed (IsReplayReport c.args.size c.args.printed) c.from_residual.result failure _ _ c.from_residual.ensures.1
    (silent_fails IsBuiltIn _ failure _ c.in_err-known.ensures)

pub returns : goal.returns
returns g c = silent_then IsBuiltIn _ c.in_ok-known.known _ _ _ c.in_ok-known.ensures
    (follows (IsPrinting c.args.printed c.in_ok-known.known.names []) (λ p. PrintsReport c.args.size p) c.in_ok-printing.printing _ _ _ _ c.in_ok-printing.ensures.done
    c.print_report.ensures)
