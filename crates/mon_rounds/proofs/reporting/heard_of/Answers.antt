use Rattle.std.proofs.Common.{Bool, [], ◌∷◌, ◌++◌, ◌∙◌, ap, sym, map, take, arith}
use Rattle.std.proofs.lemmas.List.{map_more}
use Rattle.mon_rounds.specs.Noted.{heard_from}
use Rattle.mon_rounds.proofs.reporting.heard_of.Goals as goal
use Rattle.mon_udp.specs.declared.addr.Addr.{Addr}

pub loop-address-preserved : goal.loop-address-preserved
loop-address-preserved c =
    let heard : Addr → Bool = (λ a. heard_from a c.args.events.now) in
    let at = c.loop-address.address-index in
    c.in_ok-push.ensures.items
    ∙ ap (λ l. l ++ c.heard_from.result ∷ []) c.loop-address.invariant
    ∙ ap (λ h. map heard (take at c.args.peers.now) ++ h ∷ []) c.heard_from.ensures
    ∙ sym (map_more heard c.args.peers.now at _ (omega (arith, c.loop-address-test.true)))
