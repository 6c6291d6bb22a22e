use Rattle.mon_console.specs.Files.{IsPrint}
use Rattle.mon_file_commands.proofs.Promised.{no_memory, printed}
use Rattle.mon_station_commands.proofs.Steps.{plain}
use Rattle.mon_station_commands.proofs.printing.print_report.Goals as goal

pub returns-in_err-put_lines-clause-report : goal.returns-in_err-put_lines-clause-report
returns-in_err-put_lines-clause-report g c = no_memory _ IsPrint c.from_residual.result (g.H.Host.log c.args.host.now) c.from_residual.ensures.1

pub returns-then-is_plain-clause-report : goal.returns-then-is_plain-clause-report
returns-then-is_plain-clause-report g c =
    let is = c.is_plain.ensures.0 c.if-is_plain.true in
    printed _ c.put_lines.new.lines.items c.as_slice.result.now c.print.result (g.H.Host.log c.args.host.now) (g.H.Host.log c.print.new.host)
    (plain _ c.args.live.now.reports.printing _ c.board.result.now _ c.put_lines.new.lines.items is.0 is.1 c.board.ensures (λ p. c.in_ok-put_lines.ensures p)) c.as_slice.ensures.value
    c.print.ensures

pub returns-in_err-text-clause-report : goal.returns-in_err-text-clause-report
returns-in_err-text-clause-report g c = no_memory _ IsPrint c.from_residual-in_err-text.result (g.H.Host.log c.args.host.now) c.from_residual-in_err-text.ensures.1

pub returns-clause-report : goal.returns-clause-report
returns-clause-report g c =
    printed _ c.in_ok-text.text.items c.as_slice-2.result.now c.print-2.result (g.H.Host.log c.args.host.now) (g.H.Host.log c.print-2.new.host) c.in_ok-text.ensures
    c.as_slice-2.ensures.value c.print-2.ensures
