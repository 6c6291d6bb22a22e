use Rattle.std.proofs.Common.{◌<◌, length, ap, ◌∙◌, arith}
use Rattle.std.specs.Prelude.{List, min}
use Rattle.mon_rounds.specs.Noted.{notices_of}
use Rattle.mon_rounds.proofs.Notices.{notices_all, notices_step}
use Rattle.mon_rounds.proofs.reporting.notices_of.Goals as goal
use Rattle.mon_rounds.specs.Order.{RoundEvent}

pub loop-place-preserved : goal.loop-place-preserved
loop-place-preserved c =
    let events = c.events-events.result.now in
    let within : c.loop-place.place < min (length events) (length c.args.answers.now) = omega (arith, c.loop-place-test.true, c.min-place-end.ensures) in
    notices_step c.args.round.now.targets events c.args.answers.now c.loop-place.place _ _ _ _ (omega (arith, within)) (omega (arith, within)) c.in_ok-put_notice.ensures c.loop-place.invariant

pub returns : goal.returns
returns c =
    let events = c.events-events.result.now in
    c.loop-place.invariant
    ∙ notices_all c.args.round.now.targets events c.args.answers.now c.loop-place.place (omega (arith, c.loop-place-test.false, c.min-place-end.ensures))
    ∙ ap (λ (l : List RoundEvent). notices_of c.args.round.now.targets l c.args.answers.now) c.events-events.ensures.events
