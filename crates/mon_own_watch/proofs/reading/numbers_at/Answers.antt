use Rattle.std.proofs.Common.{rules, ◌≡◌, ◌<◌, ◌-◌, ◌∙◌, ◌++◌, ◌∷◌, [], None, ap, sym, ℕ, length, arith}
use Rattle.std.proofs.lemmas.List.{length_push}
use Rattle.std.proofs.lemmas.Result.{err_from_is_err_and}
use Rattle.mon_fields.specs.Reading.{with_front, one_by_one}
use Rattle.mon_fields.proofs.Promised.{is_done}
use Rattle.mon_own_watch.specs.Reading.{next_number}
use Rattle.mon_own_watch.proofs.Parts.{fails, one_more}
use Rattle.mon_own_watch.proofs.reading.numbers_at.Goals as goal

pub returns-in_err-number : goal.returns-in_err-number
returns-in_err-number c =
    let held : c.len.result ≡ length c.loop-reader.numbers.items = search rules in
    let bound : c.from.result ≡ c.args.count = search rules in
    let some : 0 < c.args.count - length c.loop-reader.numbers.items = omega (arith, held, bound, c.loop-reader-test.true) in
    let p = err_from_is_err_and c.from_residual.result c.from_residual.ensures.1 in
    rw (p.1, p.2) (fails c.loop-reader.numbers.items _ c.loop-reader.reader _ c.loop-reader.invariant.1 some c.in_err-number.field-0.0 c.in_err-number.ensures.gives)

pub loop-reader-preserved : goal.loop-reader-preserved
loop-reader-preserved c =
    let held : c.len.result ≡ length c.loop-reader.numbers.items = search rules in
    let bound : c.from.result ≡ c.args.count = search rules in
    let some : 0 < c.args.count - length c.loop-reader.numbers.items = omega (arith, held, bound, c.loop-reader-test.true) in
    let longer = length_push c.loop-reader.numbers.items c.in_ok-number.number in
    let next : c.args.count - length c.loop-reader.numbers.items - 1 ≡ c.args.count - length (c.loop-reader.numbers.items ++ c.in_ok-number.number ∷ []) = omega (arith, longer, some) in
    rw c.in_ok-push.ensures.ok (
      omega (arith, longer, some),
      ap (λ (n : ℕ). with_front (c.loop-reader.numbers.items ++ c.in_ok-number.number ∷ []) (one_by_one next_number None n c.number.new.self)) (sym next)
          ∙ one_more c.loop-reader.numbers.items _ c.loop-reader.reader _ c.loop-reader.invariant.1 some c.in_ok-number.number c.number.new.self c.in_ok-number.ensures.gives,
    )

pub returns : goal.returns
returns c =
    let held : c.len.result ≡ length c.loop-reader.numbers.items = search rules in
    let bound : c.from.result ≡ c.args.count = search rules in
    let none : c.args.count - length c.loop-reader.numbers.items ≡ 0 = omega (arith, held, bound, c.loop-reader-test.false) in
    is_done next_number c.loop-reader.numbers.items None _ c.loop-reader.reader _ c.loop-reader.invariant.1 none
