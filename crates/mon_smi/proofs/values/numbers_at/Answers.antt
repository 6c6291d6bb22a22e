use Rattle.std.proofs.Common.{◌≡◌, ◌-◌, List, [], true, false, length, drop, Ok, Err, rules, refl, subst}
use Rattle.std.proofs.lemmas.Result.{err_from_is_err_and}
use Rattle.mon_smi.specs.declared.kind.TokenKind.TheVariants.{RightBrace}
use Rattle.mon_smi.specs.Reading.{Fails, sub_at, component_at, single, begins, numbers_at}
use Rattle.mon_smi.specs.Grammar.{IsComponent}
use Rattle.mon_smi.specs.Lexemes.{Lexeme}
use Rattle.mon_smi.proofs.ForValues.{behind_start, behind_next, behind_done, behind_failed, passed_on, component_takes, component_some, numbers_is}
use Rattle.mon_smi.proofs.values.numbers_at.Goals as goal

pub loop-numbers-init : goal.loop-numbers-init
loop-numbers-init c = rw c.new-numbers.ensures.items (behind_start component_at single (begins RightBrace) c.args.ls.now)

pub loop-numbers-preserved : goal.loop-numbers-preserved
loop-numbers-preserved c =
    let goes : begins RightBrace (drop (length c.args.ls.now - c.loop-numbers.left) c.args.ls.now) ≡ false = search rules in
    let found : component_at (drop (length c.args.ls.now - c.loop-numbers.left) c.args.ls.now) ≡ Ok (c.in_ok-number.number, c.in_ok-number.rest.now) = search rules in
    (behind_next component_at single (begins RightBrace) IsComponent component_takes component_some c.args.ls.now c.loop-numbers.numbers.items c.push.new.self.items c.loop-numbers.left c.in_ok-number.number c.in_ok-number.rest.now c.loop-numbers.invariant goes found c.in_ok-push.ensures.items).0

pub loop-numbers-smaller : goal.loop-numbers-smaller
loop-numbers-smaller c =
    let goes : begins RightBrace (drop (length c.args.ls.now - c.loop-numbers.left) c.args.ls.now) ≡ false = search rules in
    let found : component_at (drop (length c.args.ls.now - c.loop-numbers.left) c.args.ls.now) ≡ Ok (c.in_ok-number.number, c.in_ok-number.rest.now) = search rules in
    (behind_next component_at single (begins RightBrace) IsComponent component_takes component_some c.args.ls.now c.loop-numbers.numbers.items c.push.new.self.items c.loop-numbers.left c.in_ok-number.number c.in_ok-number.rest.now c.loop-numbers.invariant goes found c.in_ok-push.ensures.items).1

empty : component_at [] ≡ Err []
unfolding component_at sub_at
empty = refl

pub returns-in_err-number-clause-gives : goal.returns-in_err-number-clause-gives
returns-in_err-number-clause-gives c =
    let goes : begins RightBrace (drop (length c.args.ls.now - c.loop-numbers.left) c.args.ls.now) ≡ false = search rules in
    let p = err_from_is_err_and c.from_residual.result c.from_residual.ensures.1 in
    rw (p.1, p.2) (passed_on c.in_err-number.field-0.0 (component_at (drop (length c.args.ls.now - c.loop-numbers.left) c.args.ls.now)) (numbers_at c.args.ls.now)
    (λ left none. numbers_is c.args.ls.now (Err left) (behind_failed component_at single (begins RightBrace) c.args.ls.now c.loop-numbers.numbers.items c.loop-numbers.left left empty c.loop-numbers.invariant goes none))
    (subst (λ (l : List Lexeme). Fails c.in_err-number.field-0.0 (component_at l)) c.last-in-loop-numbers.ensures c.in_err-number.ensures))

pub returns-clause-gives : goal.returns-clause-gives
returns-clause-gives c =
    let stops : begins RightBrace (drop (length c.args.ls.now - c.loop-numbers.left) c.args.ls.now) ≡ true = search rules in
    numbers_is c.args.ls.now _ (behind_done component_at single (begins RightBrace) c.args.ls.now c.loop-numbers.numbers.items c.loop-numbers.left c.loop-numbers.invariant stops)
