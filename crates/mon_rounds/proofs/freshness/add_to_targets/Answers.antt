use Rattle.std.proofs.Common.{◌<◌, length, arith}
use Rattle.mon_rounds.specs.Freshness.{target_after}
use Rattle.mon_rounds.proofs.InPlace.{one_mapped_at}
use Rattle.mon_rounds.proofs.freshness.add_to_targets.Goals as goal

pub loop-place-preserved : goal.loop-place-preserved
loop-place-preserved c =
    let inside : c.loop-place.place < length c.loop-place.targets = omega (arith, c.loop-place-test.true, c.loop-place.invariant.number) in
    one_mapped_at (target_after c.args.spell.span c.args.report.now c.args.spell.ended) c.args.targets.now c.loop-place.targets c.loop-place.place _ c.target_after.result
    c.loop-place.invariant inside c.target_after.ensures
