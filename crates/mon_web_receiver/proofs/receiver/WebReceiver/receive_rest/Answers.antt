use Rattle.std.proofs.Common.{suc, ◌∙◌, refl}
use Rattle.mon_web_receiver.specs.Attempt.{none}
use Rattle.mon_web_receiver.proofs.Attempts.{got_as, one_more, turns_over, turns_then}
use Rattle.mon_web_receiver.proofs.receiver.WebReceiver.receive_rest.Goals as goal

pub returns-in-Ok-Received-clause-got : goal.returns-in-Ok-Received-clause-got
returns-in-Ok-Received-clause-got g c =
    let stays = c.loop.invariant in
    got_as (λ k. g.T.Ticks.told k.now) (λ s. g.S.Looks.found s.now) c.loop.self.ticks _ c.loop.self.socket _ c.loop.self.timer _ _ c.in-Ok-Received.len c.in-Ok-Received.from _ _ _ _ _
    stays.1 stays.2 stays.0 c.in-Ok-Received.field-0-is c.in-Ok-Received.ensures.attempt c.as_slice.ensures.value c.arrival_of.ensures

pub returns-in-Ok-Received-clause-turns : goal.returns-in-Ok-Received-clause-turns
returns-in-Ok-Received-clause-turns g c =
    let stays = c.loop.invariant in
    turns_then _ stays.7 _ c.loop.self.unserved _ _ c.loop.self.web _ _ c.in-Ok-Received.len c.in-Ok-Received.from _ _ c.in-Ok-Received.field-0-is c.in-Ok-Received.ensures.turns stays.8 stays.9 c.arrival_of.ensures

pub returns-in-Ok-Over-clause-turns : goal.returns-in-Ok-Over-clause-turns
returns-in-Ok-Over-clause-turns g c =
    let stays = c.loop.invariant in
    turns_over _ stays.7 _ c.loop.self.unserved _ _ c.loop.self.web _ _ c.in-Ok-Over.field-0-is c.in-Ok-Over.ensures.turns stays.8 stays.9

pub loop-init : goal.loop-init
loop-init g c = (refl, refl, refl, refl, refl, refl, refl, 0, none c.args.self.now.web, refl)

pub loop-preserved : goal.loop-preserved
loop-preserved g c =
    let stays = c.loop.invariant in
    let kept = c.attempt.ensures in
    let turns = one_more (λ k. g.T.Ticks.told k.now) (λ d. g.R.Dates.dated d.now) g.W.Serves.served _ c.loop.self.ticks _ c.loop.self.rt _ c.loop.self.origin _ c.loop.self.timer _ stays.7 c.args.self.now.unserved c.loop.self.unserved _ c.args.self.now.web c.loop.self.web _ _
    stays.1 stays.6 stays.5 stays.0 c.in-Ok-Served.field-0-is c.in-Ok-Served.ensures.attempt c.in-Ok-Served.ensures.turns stays.8 in (
      kept.timer ∙ stays.0,
      kept.by.0 ∙ stays.1,
      kept.by.1 ∙ stays.2,
      kept.buffer ∙ stays.3,
      kept.pages ∙ stays.4,
      kept.origin ∙ stays.5,
      kept.by.2 ∙ stays.6,
      suc stays.7,
      turns.0,
      turns.1,
    )
