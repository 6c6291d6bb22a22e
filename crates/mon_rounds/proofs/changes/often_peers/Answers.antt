use Rattle.std.proofs.Common.{refl}
use Rattle.std.proofs.lemmas.Result.{IfOk-from_err}
use Rattle.mon_rounds.specs.Changes.{offers_often}
use Rattle.mon_rounds.proofs.Pushed.{all_pushed, one_pushed}
use Rattle.mon_rounds.proofs.changes.often_peers.Goals as goal

pub loop-peer-init : goal.loop-peer-init
loop-peer-init c = c.in_ok-often.ensures.items

pub loop-peer-preserved : goal.loop-peer-preserved
loop-peer-preserved c = one_pushed offers_often c.args.peers.now c.loop-peer.often.items c.push.new.self.items c.loop-peer.peer-index _ _ c.loop-peer.invariant c.loop-peer-test.true c.in_ok-push.ensures.items refl

pub returns : goal.returns
returns c = all_pushed offers_often c.args.peers.now c.loop-peer.often.items c.loop-peer.peer-index c.loop-peer.invariant c.loop-peer-test.false

pub returns-in_err-push : goal.returns-in_err-push
returns-in_err-push c = IfOk-from_err c.from_residual-in_err-push.result _ c.from_residual-in_err-push.ensures.0
