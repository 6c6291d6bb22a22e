use Rattle.std.proofs.Common.{◌+◌, ◌++◌, ◌∷◌, ◌≡◌, [], List, map, take, sym, ap, subst, ◌∙◌}
use Rattle.std.specs.List.{AllByRecursion}
use Rattle.mon_exchange.specs.declared.sharing.Portion.{Portion}
use Rattle.mon_exchange.specs.Claim.{IsClaim}
use Rattle.mon_exchange.specs.Portions.{serial_after}
use Rattle.mon_station.specs.State.{serial_past, state_of}
use Rattle.mon_station.specs.Told.{offers_from, to_peer}
use Rattle.mon_station.proofs.Offered.{one_offer_more, one_past_more, one_claim_more, portions_more}
use Rattle.mon_station.proofs.life.Life.offers.Goals as goal

pub loop-portion-preserved : goal.loop-portion-preserved
loop-portion-preserved c =
    let s = state_of c.args.self.now in
    let k = c.loop-portion.portion-index in
    let ps : List Portion = c.args.portions.now in
    let p : Portion = c.portion-item.result in
    let so_far = c.loop-portion.invariant in
    let longer : take (k + 1) ps ≡ take k ps ++ p ∷ [] = portions_more ps k p c.loop-portion-test.true c.portion-item.is in
    record {
      sent = c.in_ok-push.ensures.items
          ∙ (λ j. so_far.sent j ++ c.in_ok-offer.ensures.sent j ∷ [])
          ∙ one_offer_more s c.args.peer s.serial c.loop-portion.serial (take k ps) p so_far.next
          ∙ ap (λ (l : List Portion). map (to_peer c.args.peer) (offers_from s s.serial l)) (sym longer);
      next = c.serial_after-serial.ensures.serial ∙ ap serial_after so_far.next ∙ one_past_more s.serial (take k ps) p ∙ ap (serial_past s.serial) (sym longer);
      claims = subst (λ (l : List Portion). AllByRecursion IsClaim (offers_from s s.serial l)) (sym longer)
          (one_claim_more s s.serial c.loop-portion.serial (take k ps) p so_far.next so_far.claims c.in_ok-offer.ensures.claim);
    }
