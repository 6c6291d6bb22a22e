use Rattle.std.proofs.Common.{◌≡◌, ◌++◌, ◌∷◌, [], length, inl, inr, sym, subst, ap, ◌∙◌, arith, length-append}
use Rattle.mon_world.specs.Places.{HasNumber}
use Rattle.mon_world.specs.Shows.{IsFirst}
use Rattle.mon_world.proofs.Stations.{number_push}
use Rattle.mon_world.proofs.opening.open_all.Goals as goal

pub loop-number-preserved : goal.loop-number-preserved
loop-number-preserved c = record {
  first = λ x s at. elim (number_push c.loop-number.stations.items c.in_ok-open_first.field-0 s x (subst (λ l. HasNumber l x s) c.in_ok-push.ensures.items at)) [
    | inl before ↦ c.loop-number.invariant.first x s before
    | inr last ↦
        let number : x ≡ c.loop-number.number = last.0 ∙ c.loop-number.invariant.count in
        subst (λ y. IsFirst c.args.core.now c.args.count y s) (sym number) (subst (λ t. IsFirst c.args.core.now c.args.count c.loop-number.number t) (sym last.1) c.in_ok-open_first.ensures.opened)
  ];
  count =
      let more : length c.push.new.self.items ≡ length (c.loop-number.stations.items ++ c.in_ok-open_first.field-0 ∷ []) = ap length c.in_ok-push.ensures.items in
      omega (arith, more, length-append c.loop-number.stations.items (c.in_ok-open_first.field-0 ∷ []), c.loop-number.invariant.count);
}
