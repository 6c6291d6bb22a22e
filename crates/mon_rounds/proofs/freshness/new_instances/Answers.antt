use Rattle.std.proofs.Common.{ℕ, ◌≤◌, [], ◌∷◌, ◌++◌, ◌∙◌, ap, subst, sym, length, take, arith}
use Rattle.std.specs.Prelude.{None, get_or}
use Rattle.mon_rounds.specs.declared.freshness.InstanceAge.{InstanceAge}
use Rattle.mon_rounds.specs.Freshness.{new_instance, numbered}
use Rattle.mon_rounds.proofs.InPlace.{numbered_all, numbers_more}
use Rattle.mon_rounds.proofs.freshness.new_instances.Goals as goal

pub loop-place-preserved : goal.loop-place-preserved
loop-place-preserved c =
    let board = c.args.board.now in
    let all = board.watch.instances in
    let at = c.loop-place.place in
    let made : ℕ → InstanceAge = (λ n. new_instance board n (get_or c.args.polled.now n None)) in
    let watched = c.instances-count.ensures.instances ∙ ap (λ w. w.instances) c.watch.ensures.watch in
    c.in_ok-push.ensures.items
    ∙ ap (λ l. l ++ c.new_instance.result ∷ []) c.loop-place.invariant
    ∙ ap (λ t. numbered (λ number w. made number) 0 (take at all) ++ t ∷ []) (c.new_instance.ensures ∙ ap (new_instance board at) c.target_at-target.ensures)
    ∙ sym (numbers_more made all at (omega (arith, c.loop-place-test.true, ap length watched)))

pub loop-place-init : goal.loop-place-init
loop-place-init c = c.in_ok-instances.ensures.items

pub returns : goal.returns
returns c =
    let board = c.args.board.now in
    let all = board.watch.instances in
    let watched = c.instances-count.ensures.instances ∙ ap (λ w. w.instances) c.watch.ensures.watch in
    c.loop-place.invariant
    ∙ numbered_all (λ number w. new_instance board number (get_or c.args.polled.now number None)) all c.loop-place.place (subst (λ l. length l ≤ c.loop-place.place) watched c.loop-place-test.false)
