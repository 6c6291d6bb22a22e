use Rattle.std.proofs.Common.{◌<◌, sym, length, subst}
use Rattle.mon_rounds.specs.Freshness.{instance_after}
use Rattle.mon_rounds.proofs.InPlace.{all_mapped, none_mapped, one_mapped_at}
use Rattle.mon_rounds.proofs.freshness.add_to_instances.Goals as goal

pub bounds-instances-place : goal.bounds-instances-place
bounds-instances-place c = subst (λ n. c.loop-place.place < n) (sym c.loop-place.auto.instances) c.loop-place-test.true

pub loop-place-init : goal.loop-place-init
loop-place-init c = none_mapped (instance_after c.args.span c.args.board.now) c.args.instances.now

pub loop-place-preserved : goal.loop-place-preserved
loop-place-preserved c =
    let within : c.loop-place.place < length c.loop-place.instances = subst (λ n. c.loop-place.place < n) (sym c.loop-place.auto.instances) c.loop-place-test.true in
    one_mapped_at (instance_after c.args.span c.args.board.now) c.args.instances.now c.loop-place.instances c.loop-place.place _ c.instance_after.result c.loop-place.invariant within c.instance_after.ensures

pub returns : goal.returns
returns c = all_mapped (instance_after c.args.span c.args.board.now) c.args.instances.now c.loop-place.instances c.loop-place.place c.loop-place.invariant c.loop-place-test.false
