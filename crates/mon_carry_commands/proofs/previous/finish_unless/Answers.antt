use Rattle.std.proofs.Common.{Bool, sym, subst}
use Rattle.mon_host.specs.Log.{GoesOnBy}
use Rattle.mon_carry_commands.specs.Line.{IsTextPrint, finished_line}
use Rattle.mon_carry_commands.specs.Paths.{IsFinish}
use Rattle.mon_carry_commands.specs.Previous.{IsFinished}
use Rattle.mon_carry_commands.proofs.Steps.{follows, stopped}
use Rattle.mon_carry_commands.proofs.previous.finish_unless.Goals as goal

pub returns-then-skips : goal.returns-then-skips
returns-then-skips g c =
    subst (λ (b : Bool). GoesOnBy (λ log. IsFinished b c.args.path.now log c.print_finished.result) (g.H.Host.log c.args.host.now) (g.H.Host.log c.print_finished.new.host))
    (sym c.if-skips.true) c.print_finished.ensures

pub returns-in_err-finish : goal.returns-in_err-finish
returns-in_err-finish g c =
    subst (λ (b : Bool). GoesOnBy (λ log. IsFinished b c.args.path.now log c.from_residual.result) (g.H.Host.log c.args.host.now) (g.H.Host.log c.finish.new.host))
    (sym c.if-skips.false) (stopped (IsFinish c.args.path.now) (λ done. IsTextPrint (finished_line c.args.path.now)) c.in_err-finish.field-0.0 _
    (g.H.Host.log c.args.host.now) (g.H.Host.log c.finish.new.host) c.from_residual.ensures.1 c.in_err-finish.ensures)

pub returns : goal.returns
returns g c =
    subst (λ (b : Bool). GoesOnBy (λ log. IsFinished b c.args.path.now log c.print_finished-2.result) (g.H.Host.log c.args.host.now) (g.H.Host.log c.print_finished-2.new.host))
    (sym c.if-skips.false) (follows (IsFinish c.args.path.now) (λ done. IsTextPrint (finished_line c.args.path.now)) c.in_ok-finish.field-0 _
    (g.H.Host.log c.args.host.now) (g.H.Host.log c.finish.new.host) (g.H.Host.log c.print_finished-2.new.host) c.in_ok-finish.ensures c.print_finished-2.ensures)
