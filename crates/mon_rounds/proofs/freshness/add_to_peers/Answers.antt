use Rattle.std.proofs.Common.{◌<◌, sym, length, subst}
use Rattle.mon_rounds.specs.Freshness.{peer_after}
use Rattle.mon_rounds.proofs.InPlace.{all_mapped, none_mapped, one_mapped_at}
use Rattle.mon_rounds.proofs.freshness.add_to_peers.Goals as goal

pub bounds-peers-place : goal.bounds-peers-place
bounds-peers-place c = subst (λ n. c.loop-place.place < n) (sym c.loop-place.auto.peers) c.loop-place-test.true

pub loop-place-init : goal.loop-place-init
loop-place-init c = none_mapped (peer_after c.args.span c.args.report.now) c.args.peers.now

pub loop-place-preserved : goal.loop-place-preserved
loop-place-preserved c =
    let within : c.loop-place.place < length c.loop-place.peers = subst (λ n. c.loop-place.place < n) (sym c.loop-place.auto.peers) c.loop-place-test.true in
    one_mapped_at (peer_after c.args.span c.args.report.now) c.args.peers.now c.loop-place.peers c.loop-place.place _ c.peer_after.result c.loop-place.invariant within c.peer_after.ensures

pub returns : goal.returns
returns c = all_mapped (peer_after c.args.span c.args.report.now) c.args.peers.now c.loop-place.peers c.loop-place.place c.loop-place.invariant c.loop-place-test.false
