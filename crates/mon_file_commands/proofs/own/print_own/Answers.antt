use Rattle.std.proofs.Common.{subst, sym}
use Rattle.std.specs.Prelude.{Err, Ok, Option, Result}
use Rattle.mon_board.specs.declared.board.Board.{Board}
use Rattle.mon_console.specs.declared.failure.Failure.{Failure}
use Rattle.mon_console.specs.declared.printing.Printing.{Printing}
use Rattle.mon_console.proofs.Added.{failure_is}
use Rattle.mon_host.specs.Log.{GoesOnBy}
use Rattle.mon_host.specs.Then.{Quietly, Then}
use Rattle.mon_host.proofs.Promised.{quietly, then_fails, then_follows}
use Rattle.mon_file_commands.specs.Own.{IsAgedReport, IsOwnLabelled, IsOwnSaved}
use Rattle.mon_file_commands.proofs.own.print_own.Goals as goal

pub returns-in_err-printing : goal.returns-in_err-printing
returns-in_err-printing g c =
    let start = g.H.Host.log c.args.host.now in
    let read = g.H.Host.log c.own_in_file.new.host in
    let path = c.args.path.now in
    let printing = c.args.printing in
    let labels = c.args.labels.now in
    let own = c.in_ok-own.own in
    let failure = c.in_err-printing.field-0.0 in
    let r = c.from_residual-in_err-printing.result in
    then_follows (IsOwnSaved path) (λ (o : Option Board). Then (Quietly (IsOwnLabelled o labels printing)) (λ (by : Printing). IsAgedReport path o by)) (Ok own) r start read read c.in_ok-own.ensures
    (subst (λ (e : Result Unit Failure). GoesOnBy (λ log. Then (Quietly (IsOwnLabelled own labels printing)) (λ (by : Printing). IsAgedReport path own by) log e) read read)
    (sym (failure_is r failure c.from_residual-in_err-printing.ensures.1))
    (then_fails (Quietly (IsOwnLabelled own labels printing)) (λ (by : Printing). IsAgedReport path own by) failure read read
    (quietly (IsOwnLabelled own labels printing) (Err failure) read c.in_err-printing.ensures)))

pub returns : goal.returns
returns g c =
    let start = g.H.Host.log c.args.host.now in
    let read = g.H.Host.log c.own_in_file.new.host in
    let end = g.H.Host.log c.print_aged.new.host in
    let path = c.args.path.now in
    let printing = c.args.printing in
    let labels = c.args.labels.now in
    let own = c.in_ok-own.own in
    let by = c.in_ok-printing.printing in
    then_follows (IsOwnSaved path) (λ (o : Option Board). Then (Quietly (IsOwnLabelled o labels printing)) (λ (by : Printing). IsAgedReport path o by)) (Ok own) c.print_aged.result start read end c.in_ok-own.ensures
    (then_follows (Quietly (IsOwnLabelled own labels printing)) (λ (by : Printing). IsAgedReport path own by) (Ok by) c.print_aged.result read read end
    (quietly (IsOwnLabelled own labels printing) (Ok by) read c.in_ok-printing.ensures) c.print_aged.ensures)
