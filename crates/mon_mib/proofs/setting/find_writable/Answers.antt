use Rattle.std.proofs.Common.{sym, ◌∙◌}
use Rattle.mon_mib.proofs.Writables.{under_one, under_none, if_none}
use Rattle.mon_mib.proofs.setting.find_writable.Goals as goal

pub returns-in_err-writable-clause-none : goal.returns-in_err-writable-clause-none
returns-in_err-writable-clause-none c = if_none c.from_residual-in_err-writable.result
    (λ q. under_none c.args.name.now c.in_ok-object.rest.now c.in_ok-object.object q c.in_ok-object.ensures.some.0 c.in_ok-object.ensures.some.1 (sym c.writable.ensures ∙ c.in_err-writable.was))

pub returns-clause-some : goal.returns-clause-some
returns-clause-some c = under_one c.args.name.now c.in_ok-object.rest.now c.in_ok-object.object c.in_ok-writable.field-0 c.in_ok-object.ensures.some.0 c.in_ok-object.ensures.some.1
    (sym c.writable.ensures ∙ c.in_ok-writable.was)
