use Rattle.std.proofs.lemmas.Result.{IfOk-from_err}
use Rattle.mon_agent.proofs.reading.step.Goals as goal

pub returns-in_err-binding-clause-step : goal.returns-in_err-binding-clause-step
returns-in_err-binding-clause-step g c = IfOk-from_err c.from_residual.result _ c.from_residual.ensures.0

pub returns-in_err-binding-clause-only : goal.returns-in_err-binding-clause-only
returns-in_err-binding-clause-only g c = λ next steps. IfOk-from_err c.from_residual.result _ c.from_residual.ensures.0

pub returns-in_err-binding-clause-stays : goal.returns-in_err-binding-clause-stays
returns-in_err-binding-clause-stays g c = c.next.ensures.stays

pub returns-in_err-try_clone-in-None-clause-step : goal.returns-in_err-try_clone-in-None-clause-step
returns-in_err-try_clone-in-None-clause-step g c = IfOk-from_err c.from_residual-in_err-try_clone-in-None.result _ c.from_residual-in_err-try_clone-in-None.ensures.0

pub returns-in_err-try_clone-in-None-clause-only : goal.returns-in_err-try_clone-in-None-clause-only
returns-in_err-try_clone-in-None-clause-only g c = λ next steps. IfOk-from_err c.from_residual-in_err-try_clone-in-None.result _ c.from_residual-in_err-try_clone-in-None.ensures.0

pub returns-in_err-try_clone-in-None-clause-stays : goal.returns-in_err-try_clone-in-None-clause-stays
returns-in_err-try_clone-in-None-clause-stays g c = c.next.ensures.stays

pub returns-in-Some-clause-stays : goal.returns-in-Some-clause-stays
returns-in-Some-clause-stays g c = c.next.ensures.stays

pub returns-in_ok-try_clone-in-None-clause-stays : goal.returns-in_ok-try_clone-in-None-clause-stays
returns-in_ok-try_clone-in-None-clause-stays g c = c.next.ensures.stays
