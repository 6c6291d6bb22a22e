use Rattle.mon_commands.specs.Rehearsing.{IsSelfTest, IsTried}
use Rattle.mon_commands.proofs.Steps.{failed, silent_fails}
use Rattle.mon_commands.proofs.rehearsal.run_self_test.Goals as goal

pub returns-in_err-trial : goal.returns-in_err-trial
returns-in_err-trial g c =
    let failure = c.in_err-trial.field-0.0 in
    failed IsSelfTest c.from_residual.result failure _ _ c.from_residual.ensures.1
    (silent_fails IsTried _ failure _ c.in_err-trial.ensures)
