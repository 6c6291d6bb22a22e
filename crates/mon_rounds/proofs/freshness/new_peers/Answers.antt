use Rattle.std.proofs.Common.{[], ◌∷◌, ◌++◌, ◌∙◌, ap, sym, take, arith}
use Rattle.mon_rounds.specs.Freshness.{new_peer, numbered}
use Rattle.mon_rounds.proofs.InPlace.{numbered_all, numbered_more}
use Rattle.mon_rounds.proofs.freshness.new_peers.Goals as goal

pub loop-place-preserved : goal.loop-place-preserved
loop-place-preserved c =
    let all = c.args.stations.now in
    let at = c.loop-place.place in
    c.in_ok-push.ensures.items
    ∙ ap (λ l. l ++ c.new_peer.result ∷ []) c.loop-place.invariant
    ∙ ap (λ t. numbered new_peer 0 (take at all) ++ t ∷ []) c.new_peer.ensures
    ∙ sym (numbered_more new_peer all at _ (omega (arith, c.loop-place-test.true)))

pub returns : goal.returns
returns c = c.loop-place.invariant ∙ numbered_all new_peer c.args.stations.now c.loop-place.place (omega (arith, c.loop-place-test.false))
