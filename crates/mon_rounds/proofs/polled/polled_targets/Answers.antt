use Rattle.std.proofs.Common.{ℕ, [], ◌∷◌, ◌++◌, ◌∙◌, ap, sym, length, take, arith}
use Rattle.std.specs.Prelude.{Option}
use Rattle.mon_rounds.specs.Freshness.{numbered}
use Rattle.mon_rounds.specs.Polled.{target_for}
use Rattle.mon_rounds.proofs.InPlace.{numbers_more}
use Rattle.mon_rounds.proofs.polled.polled_targets.Goals as goal

pub loop-number-preserved : goal.loop-number-preserved
loop-number-preserved c =
    let all = c.args.core.now.watch.instances in
    let at = c.loop-number.number in
    let made : ℕ → Option ℕ = target_for c.args.core.now.targets in
    let watched = c.instances-count.ensures.instances ∙ ap (λ w. w.instances) c.watch.ensures.watch in
    c.in_ok-push.ensures.items
    ∙ ap (λ l. l ++ c.target_for.result ∷ []) c.loop-number.invariant
    ∙ ap (λ t. numbered (λ number w. made number) 0 (take at all) ++ t ∷ []) (c.target_for.ensures ∙ ap (λ targets. target_for targets at) c.targets.ensures.targets)
    ∙ sym (numbers_more made all at (omega (arith, c.loop-number-test.true, ap length watched)))
