use Rattle.std.proofs.Common.{rules, ◌≡◌, ◌≢◌, Err, ◌+◌, ◌++◌, ◌∷◌, [], length, take, sym, ◌∙◌, ap, arith}
use Rattle.std.proofs.lemmas.List.{length-take-le, take_more}
use Rattle.mon_world.specs.declared.fault.WorldFault.TheVariants.{OutOfMemory}
use Rattle.mon_world.specs.Places.{setting_at}
use Rattle.mon_world.proofs.Promised.{step_made}
use Rattle.mon_rehearsal.specs.declared.script.ScriptStep.{ScriptStep}
use Rattle.mon_rehearsal.proofs.Made.{one_made}
use Rattle.mon_rehearsal.proofs.rehearsing.make_steps.Goals as goal

pub loop-step-preserved : goal.loop-step-preserved
loop-step-preserved c =
    let i = c.loop-step.step-index in
    let steps = c.args.steps.now in
    let was = c.loop-step.world in
    let now = c.step-result.new.self in
    let said : ScriptStep = c.step-item.result in
    let more : take (i + 1) steps ≡ take i steps ++ said ∷ [] = take_more steps i said c.loop-step-test.true ∙ ap (λ (s : ScriptStep). take i steps ++ s ∷ []) (sym c.step-item.is) in
    let so_many : length (take i steps) ≡ i = length-take-le i steps (omega (arith, c.loop-step-test.true)) in
    let ample : c.step-result.result ≢ Err OutOfMemory = search rules in
    record {
      made = λ past shows. one_made was.core now.core (setting_at c.args.world.now.core (length c.args.world.now.stations.items)) (setting_at was.core (length was.stations.items)) (length c.args.world.now.stations.items) (length was.stations.items) was.stations.items now.stations.items was.sent.items now.sent.items
          (take i steps) (take (i + 1) steps) said c.step.result c.step-result.result past c.args.text.now.items c.loop-step.text.items c.put_step.new.text.items (c.loop-step.number + 1)
          more (omega (arith, so_many, c.loop-step.invariant.at)) (λ j. setting_at (c.loop-step.invariant.core j) (c.loop-step.invariant.stations j)) c.loop-step.invariant.stations c.step.ensures c.in_ok-put_step.ensures
          (λ middle there. step_made was.core now.core (setting_at was.core (length was.stations.items)) (length was.stations.items) was.stations.items now.stations.items was.sent.items now.sent.items c.step.result c.step-result.result middle
          there (c.step-result.ensures.outcome middle there) c.step-result.ensures.there (c.step-result.ensures.cause middle there) c.step-result.ensures.first c.step-result.ensures.count c.step-result.ensures.refused)
          ample (c.loop-step.invariant.made past shows);
      core = c.step-result.ensures.core ∙ c.loop-step.invariant.core;
      stations = c.step-result.ensures.stations ∙ c.loop-step.invariant.stations;
      at = ap (λ n. n + 1) c.loop-step.invariant.at;
    }
