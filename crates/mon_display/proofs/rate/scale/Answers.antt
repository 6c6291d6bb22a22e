use Rattle.std.proofs.Common.{rules, ◌≡◌, ◌∙◌, ◌≤◌, ◌<◌, ◌^◌, ◌-◌, ◌+◌, ◌*◌, ℕ, suc, ap, sym, subst, refl, arith}
use Rattle.std.proofs.Math.Nat.{pow-suc}
use Rattle.mon_display.specs.Rate.{digits_of, exponent_from, exponent_of, rounded}
use Rattle.mon_display.proofs.Exponents.{begins, ended, first_digits, found, last_step, passed, step_small, step_some}
use Rattle.mon_display.proofs.rate.scale.Goals as goal

pub loop-exponent-init : goal.loop-exponent-init
loop-exponent-init c = (refl, begins c.args.n)

pub rounded-digits-requires-clause-some : goal.rounded-digits-requires-clause-some
rounded-digits-requires-clause-some c = subst (λ (x : ℕ). 1 ≤ x) (sym c.loop-exponent.invariant.0) (step_some c.loop-exponent.exponent)

pub rounded-digits-requires-clause-small : goal.rounded-digits-requires-clause-small
rounded-digits-requires-clause-small c =
    omega (arith, c.loop-exponent.invariant.0, step_small c.loop-exponent.exponent (omega (arith, c.loop-exponent-test.true)))

pub returns-then-digits-le999-clause-digits : goal.returns-then-digits-le999-clause-digits
returns-then-digits-le999-clause-digits c =
    c.rounded-digits.ensures ∙ ap (λ (x : ℕ). rounded c.args.n x) c.loop-exponent.invariant.0
    ∙ first_digits c.args.n c.loop-exponent.exponent (found c.args.n c.loop-exponent.exponent c.loop-exponent.step c.rounded-digits.result c.loop-exponent.invariant c.rounded-digits.ensures c.if-digits-le999.true)

pub returns-then-digits-le999-clause-exponent : goal.returns-then-digits-le999-clause-exponent
returns-then-digits-le999-clause-exponent c =
    found c.args.n c.loop-exponent.exponent c.loop-exponent.step c.rounded-digits.result c.loop-exponent.invariant c.rounded-digits.ensures c.if-digits-le999.true

pub overflow_mul-step : goal.overflow_mul-step
overflow_mul-step c =
    omega (arith, c.loop-exponent.invariant.0, step_small c.loop-exponent.exponent (omega (arith, c.loop-exponent-test.true)))

pub loop-exponent-preserved : goal.loop-exponent-preserved
loop-exponent-preserved c =
    passed c.args.n c.loop-exponent.exponent c.loop-exponent.step c.rounded-digits.result c.loop-exponent.invariant c.rounded-digits.ensures c.if-digits-le999.false c.loop-exponent-test.true

pub rounded-requires-clause-some : goal.rounded-requires-clause-some
rounded-requires-clause-some c = subst (λ (x : ℕ). 1 ≤ x) (sym c.loop-exponent.invariant.0) (step_some c.loop-exponent.exponent)

pub rounded-requires-clause-small : goal.rounded-requires-clause-small
rounded-requires-clause-small c =
    omega (arith, c.loop-exponent.invariant.0, step_small c.loop-exponent.exponent (omega (arith, c.loop-exponent.auto.exponent-end)))

pub returns-clause-digits : goal.returns-clause-digits
returns-clause-digits c =
    c.rounded.ensures ∙ ap (λ (x : ℕ). rounded c.args.n x) (last_step c.loop-exponent.exponent c.loop-exponent.step c.loop-exponent.invariant.0 (omega (arith, c.loop-exponent.auto.exponent-end, c.loop-exponent-test.false)))
    ∙ first_digits c.args.n 30 (ended c.args.n c.loop-exponent.exponent c.loop-exponent.step c.loop-exponent.invariant (omega (arith, c.loop-exponent.auto.exponent-end, c.loop-exponent-test.false)))

pub returns-clause-exponent : goal.returns-clause-exponent
returns-clause-exponent c =
    ended c.args.n c.loop-exponent.exponent c.loop-exponent.step c.loop-exponent.invariant (omega (arith, c.loop-exponent.auto.exponent-end, c.loop-exponent-test.false))
