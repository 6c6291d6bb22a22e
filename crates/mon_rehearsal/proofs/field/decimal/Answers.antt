use Rattle.std.proofs.Common.{◌≡◌, sym, ap, ◌∙◌, arith, rules}
use Rattle.std.specs.Prelude.{decimal}
use Rattle.std.proofs.lemmas.Bool.{both_ways}
use Rattle.std.proofs.lemmas.Cmp.{nat_list_eq_equiv}
use Rattle.std.proofs.lemmas.Fmt.{parse-decimal}
use Rattle.std.proofs.lemmas.Slice.Eq.{bytes_eq-Decides}
use Rattle.mon_rehearsal.proofs.Numbers.{number_none, number_read}
use Rattle.mon_rehearsal.proofs.field.decimal.Goals as goal

pub returns-in_default : goal.returns-in_default
returns-in_default c = sym (number_none c.args.text.now (λ n small is.
    c.in_default.not-Ok n (parse-decimal 32 n c.args.text.now c.parse.result small (omega arith) is c.parse.ensures.value.0)))

pub returns-then-eq : goal.returns-then-eq
returns-then-eq c =
    let same = (bytes_eq-Decides c.format.result.now c.args.text.now).0 (sym c.eq.ensures ∙ c.if-eq.true) in
    sym (number_read c.args.text.now c.in-Ok.number (search rules) (sym same ∙ c.format.ensures.text))

pub returns-else-eq : goal.returns-else-eq
returns-else-eq c = sym (number_none c.args.text.now (λ n small is.
    let read = parse-decimal 32 n c.args.text.now c.parse.result small (omega arith) is c.parse.ensures.value.0 in
    let same : c.in-Ok.number ≡ n = cc (read, c.in-Ok.is) in
    let written : c.format.result.now ≡ c.args.text.now = c.format.ensures.text ∙ ap decimal same ∙ sym is in
    both_ways c.eq.result c.if-eq.false (c.eq.ensures ∙ ap (λ t. lib.Pointwise.pointwise lib.Dec.eqb t c.args.text.now) written ∙ nat_list_eq_equiv.refl c.args.text.now)))
