use Rattle.std.proofs.Common.{Ok, drop, arith}
use Rattle.std.proofs.lemmas.Result.{err_from_is_err_and}
use Rattle.mon_ber.specs.Reading.{value_at}
use Rattle.mon_ber.proofs.Steps.{fails_only}
use Rattle.mon_ber.proofs.Values.{taken, taken_again, taken_only}
use Rattle.mon_ber.proofs.reading.read_value.Goals as goal

pub returns-in_err-value-clause-only : goal.returns-in_err-value-clause-only
returns-in_err-value-clause-only c = λ v k le is.
    let p = err_from_is_err_and c.from_residual.result c.from_residual.ensures.1 in
    rw (p.1, p.2) (fails_only c.in_err-value.field-0.0 (value_at c.args.octets.now) (v, drop k c.args.octets.now) (Ok (v, k)) c.in_err-value.ensures.gives (taken_again c.args.octets.now v k le is))

pub returns-in_err-value-clause-inline : goal.returns-in_err-value-clause-inline
returns-in_err-value-clause-inline c = λ v k le is small.
    let yes = c.in_err-value.ensures.inline v (drop k c.args.octets.now) (taken_again c.args.octets.now v k le is) small in
    absurd cc

pub returns-clause-found : goal.returns-clause-found
returns-clause-found c = taken c.args.octets.now c.in_ok-value.value c.in_ok-value.rest.now (λ i. omega (arith, c.type_inv.octets i)) c.in_ok-value.ensures.gives

pub returns-clause-only : goal.returns-clause-only
returns-clause-only c = taken_only c.args.octets.now c.in_ok-value.value c.in_ok-value.rest.now c.in_ok-value.ensures.gives
