use Rattle.std.proofs.Common.{◌∙◌, ap}
use Rattle.std.specs.Prelude.{Option}
use Rattle.mon_console.specs.declared.failure.Failure.{Failure}
use Rattle.mon_station_commands.specs.Steps.{kept_after}
use Rattle.mon_station_commands.proofs.Steps.{kept_of, tried}
use Rattle.mon_station_commands.proofs.printing.print_between.Goals as goal

pub returns-clause-printed : goal.returns-clause-printed
returns-clause-printed g c =
    let start = g.H.Host.log c.args.host.now in
    let end = g.H.Host.log c.said-failure.new.host in
    let kept = c.kept_after.ensures ∙ ap (λ (b : Option Failure). kept_after b c.said-failure.result) c.take.ensures.value in
    kept_of _ c.args.live.now.kept.unprinted _ _ c.said-failure.result start end
    (λ i. (c.print_report-done.ensures.kept i).unprinted) kept
    (tried _ c.print_report-done.result c.said-failure.result start (g.H.Host.log c.print_report-done.new.host) end c.print_report-done.ensures.report c.said-failure.ensures)
