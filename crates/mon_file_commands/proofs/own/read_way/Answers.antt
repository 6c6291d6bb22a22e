use Rattle.std.proofs.Common.{option_map}
use Rattle.mon_console.proofs.Added.{failure_is}
use Rattle.mon_file_commands.proofs.Ways.{labelled, unlabelled, unnamed}
use Rattle.mon_file_commands.proofs.own.read_way.Goals as goal

pub returns-in_err-known : goal.returns-in_err-known
returns-in_err-known g c =
    let failure = c.in_err-known.field-0.0 in
    unnamed (option_map (λ l. l.now) c.args.labels) c.args.printed failure c.from_residual.result (g.H.Host.log c.args.host.now) (failure_is c.from_residual.result failure c.from_residual.ensures.1) c.in_err-known.ensures

pub returns-in_err-labels : goal.returns-in_err-labels
returns-in_err-labels g c =
    let failure = c.in_err-labels.field-0.0 in
    let r = c.from_residual-in_err-labels.result in
    unlabelled (option_map (λ l. l.now) c.args.labels) c.args.printed c.in_ok-known.known c.in_ok-printing.printing failure r (g.H.Host.log c.args.host.now) (g.H.Host.log c.of.new.host)
    (g.H.Host.log c.labels_in.new.host) (failure_is r failure c.from_residual-in_err-labels.ensures.1) c.in_ok-known.ensures c.in_ok-printing.ensures.done c.in_err-labels.ensures

pub returns : goal.returns
returns g c =
    labelled (option_map (λ l. l.now) c.args.labels) c.args.printed c.in_ok-known.known c.in_ok-printing.printing c.in_ok-labels.labels (g.H.Host.log c.args.host.now) (g.H.Host.log c.of.new.host)
    (g.H.Host.log c.labels_in.new.host) c.in_ok-known.ensures c.in_ok-printing.ensures.done c.in_ok-labels.ensures
