use Rattle.std.proofs.Common.{[], ◌∷◌, ◌++◌, ◌∙◌, ap, sym, take, arith}
use Rattle.mon_rounds.specs.Freshness.{new_target, numbered}
use Rattle.mon_rounds.proofs.InPlace.{numbered_all, numbered_more}
use Rattle.mon_rounds.proofs.freshness.new_targets.Goals as goal

pub loop-place-preserved : goal.loop-place-preserved
loop-place-preserved c =
    let all = c.args.addresses.now in
    let at = c.loop-place.place in
    c.in_ok-push.ensures.items
    ∙ ap (λ l. l ++ c.new_target.result ∷ []) c.loop-place.invariant
    ∙ ap (λ t. numbered new_target 0 (take at all) ++ t ∷ []) c.new_target.ensures
    ∙ sym (numbered_more new_target all at _ (omega (arith, c.loop-place-test.true)))

pub returns : goal.returns
returns c = c.loop-place.invariant ∙ numbered_all new_target c.args.addresses.now c.loop-place.place (omega (arith, c.loop-place-test.false))
