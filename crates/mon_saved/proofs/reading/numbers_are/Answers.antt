use Rattle.std.proofs.Common.{◌+◌, ◌∙◌, List, ℕ, sym, ap, subst, drop, arith}
use Rattle.std.proofs.lemmas.Result.{err_from_is_err_and}
use Rattle.mon_saved.specs.Reading.{Fails, expected_at, numbers_are}
use Rattle.mon_saved.proofs.Loops.{numbers_step, numbers_done, step_fails, step_goes}
use Rattle.mon_saved.proofs.reading.numbers_are.Goals as goal

pub returns-in_err-expected_at : goal.returns-in_err-expected_at
returns-in_err-expected_at c =
    let p = err_from_is_err_and c.from_residual.result c.from_residual.ensures.1 in
    let wanted = subst (λ (v : List ℕ). Fails c.in_err-expected_at.field-0.0 (expected_at v c.loop-number.reader)) c.to_be_bytes.ensures c.in_err-expected_at.ensures in
    rw (p.1, p.2) (step_fails c.in_err-expected_at.field-0.0 _ (numbers_are (drop (c.loop-number.number-index + 1) c.args.numbers.now)) _
    (sym (numbers_step c.args.numbers.now c.loop-number.number-index 0 c.loop-number.reader c.loop-number-test.true) ∙ c.loop-number.invariant) wanted)

pub loop-number-preserved : goal.loop-number-preserved
loop-number-preserved c =
    let read = sym (ap (λ (v : List ℕ). expected_at v c.loop-number.reader) c.to_be_bytes.ensures) ∙ c.in_ok-expected_at.ensures in
    step_goes _ (numbers_are (drop (c.loop-number.number-index + 1) c.args.numbers.now)) _
    (sym (numbers_step c.args.numbers.now c.loop-number.number-index 0 c.loop-number.reader c.loop-number-test.true) ∙ c.loop-number.invariant) c.expected_at.new.reader read

pub returns : goal.returns
returns c = sym c.loop-number.invariant ∙ numbers_done c.args.numbers.now c.loop-number.number-index _ (omega (arith, c.loop-number-test.false))
