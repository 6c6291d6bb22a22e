use Rattle.std.proofs.Common.{option_map}
use Rattle.std.specs.Prelude.{Ok}
use Rattle.mon_console.specs.declared.printing.Printing.{Printing}
use Rattle.mon_host.proofs.Promised.{then_follows}
use Rattle.mon_labels.specs.declared.labels.Labels.{Labels}
use Rattle.mon_file_commands.specs.Own.{IsOwnReport, IsWayTo}
use Rattle.mon_file_commands.proofs.own.print_file_report.Goals as goal

pub returns : goal.returns
returns g c =
    then_follows (IsWayTo (option_map (λ l. l.now) c.args.labels) c.args.printed) (λ (both : Printing × Labels). IsOwnReport c.args.path.now both.0 both.1)
    (Ok (c.in_ok-printing.printing, c.in_ok-printing.labels)) c.print_own.result (g.H.Host.log c.args.host.now) (g.H.Host.log c.read_way.new.host) (g.H.Host.log c.print_own.new.host)
    c.in_ok-printing.ensures c.print_own.ensures
