use Rattle.std.proofs.Common.{◌≡◌, length, arith, refl}
use Rattle.mon_survey.specs.Meant.{IsCounter}
use Rattle.mon_survey.proofs.Zips.{each_place, more_here, not_as_long, not_here}
use Rattle.mon_survey.proofs.comparing.are_counters.Goals as goal

pub returns-then-objects-planned : goal.returns-then-objects-planned
returns-then-objects-planned c = not_as_long (IsCounter c.args.answers.now) c.args.objects.now c.args.planned.now c.if-objects-planned.true

pub returns-then-not-is_counter : goal.returns-then-not-is_counter
returns-then-not-is_counter c =
    not_here (IsCounter c.args.answers.now) c.args.objects.now c.args.planned.now c.loop-place.place c.index-objects-place.result _ c.index-objects-place.result _ c.is_counter.result (omega (arith, c.if-objects-planned.false)) (omega (arith, c.loop-place-test.true)) c.index-objects-place.is refl
    c.is_counter.ensures c.if-not-is_counter.true

pub returns : goal.returns
returns c =
    let long : length c.args.objects.now ≡ length c.args.planned.now = omega (arith, c.if-objects-planned.false) in
    each_place (IsCounter c.args.answers.now) c.args.objects.now c.args.planned.now long (λ k d e lt. c.loop-place.invariant k d e (omega (arith, c.loop-place-test.false, c.loop-place.auto.place-end)))

pub loop-place-preserved : goal.loop-place-preserved
loop-place-preserved c =
    more_here (IsCounter c.args.answers.now) c.args.objects.now c.args.planned.now c.loop-place.place c.index-objects-place.result _ c.index-objects-place.result _ c.is_counter.result (omega (arith, c.if-objects-planned.false)) (omega (arith, c.loop-place-test.true)) c.index-objects-place.is refl
    c.is_counter.ensures c.if-not-is_counter.false c.loop-place.invariant
