use Rattle.std.proofs.Common.{◌≡◌, ◌++◌, [], drop, sym, ap, ◌∙◌}
use Rattle.std.proofs.Math.ListN.{drop_of_length-le}
use Rattle.std.proofs.lemmas.List.{append-nil}
use Rattle.mon_poller.specs.Lent.{lent_stamp}
use Rattle.mon_poller.specs.Verdict.{bindings_for}
use Rattle.mon_poller.proofs.Offering.{offered, no_more, step}
use Rattle.mon_poller.proofs.offers.object_offers.Goals as goal
use Rattle.mon_poller.proofs.offers.object_offers.Goals.{in-Some+in_ok-push, in_default}

pub loop-object-preserved : goal.loop-object-preserved
loop-object-preserved c =
    let stamp = lent_stamp c.args.stamp.now in
    let o = c.object-item.result in
    let before = c.loop-object.pairs in
    let rest = c.loop-object.rest.now in
    let after_first : c.after_first-rest.result.now ≡ drop (bindings_for o.discontinuity) rest = c.after_first-rest.ensures ∙ ap (λ n. drop n rest) c.bindings_for.ensures in
    let put : c.match-sample_of.pairs ≡ before ++ offered stamp o c.sample_of.result = elim c.match-sample_of.branch [
      | in-Some+in_ok-push w ↦ w.pairs-is ∙ w.in_ok-push.ensures.pushed ∙ ap (λ s. before ++ offered stamp o s) (sym w.in-Some.is)
      | in_default w ↦ w.pairs-is ∙ sym (append-nil before) ∙ ap (λ s. before ++ offered stamp o s) (sym w.in_default.is)
    ] in
    step stamp c.args.objects.now c.loop-object.object-index c.args.bindings.now rest c.after_first-rest.result.now o before c.match-sample_of.pairs c.sample_of.result
    c.loop-object-test.true c.object-item.is c.sample_of.ensures put after_first c.loop-object.invariant

pub returns : goal.returns
returns c =
    let stamp = lent_stamp c.args.stamp.now in
    let none : drop c.loop-object.object-index c.args.objects.now ≡ [] = drop_of_length-le c.args.objects.now {i = c.loop-object.object-index} c.loop-object-test.false in
    sym (sym c.loop-object.invariant ∙ ap (λ xs. c.loop-object.pairs ++ xs) (no_more stamp c.args.objects.now c.loop-object.object-index c.loop-object.rest.now none) ∙ append-nil c.loop-object.pairs)
