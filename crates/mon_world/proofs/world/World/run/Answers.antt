use Rattle.std.proofs.Common.{◌≡◌, ◌+◌, ◌++◌, ◌∷◌, [], List, length, take, get_or, ◌∙◌, ap, subst, arith, length-append}
use Rattle.std.proofs.lemmas.List.{take_all, take_more}
use Rattle.std.specs.Prelude.{Result}
use Rattle.mon_world.specs.declared.fault.WorldFault.{WorldFault}
use Rattle.mon_world.specs.declared.sending.Sent.{Sent}
use Rattle.mon_world.specs.declared.step.Step.TheVariants as step
use Rattle.mon_world.specs.Outcome.{AreStepOutcomes}
use Rattle.mon_world.specs.Places.{setting_at}
use Rattle.mon_world.specs.Shows.{LeadsTo}
use Rattle.mon_world.proofs.Outcomes.{outcomes_step}
use Rattle.mon_world.proofs.Promised.{step_made}
use Rattle.mon_world.proofs.world.World.run.Goals as goal

pub loop-step-preserved : goal.loop-step-preserved
loop-step-preserved c =
    let i = c.loop-step.step-index in
    let one = get_or c.args.steps.now i (step.StartPoll 0 0) in
    let more : take (i + 1) c.args.steps.now ≡ take i c.args.steps.now ++ one ∷ [] = take_more c.args.steps.now i (step.StartPoll 0 0) c.loop-step-test.true in
    record {
      outcomes = λ past was. outcomes_step c.args.self.now.core c.loop-step.self.core c.step-result.new.self.core
          (setting_at c.args.self.now.core (length c.args.self.now.stations.items)) (setting_at c.loop-step.self.core (length c.loop-step.self.stations.items)) (length c.args.self.now.stations.items) (length c.loop-step.self.stations.items)
          c.loop-step.self.stations.items c.step-result.new.self.stations.items c.loop-step.self.sent.items c.step-result.new.self.sent.items
          (take i c.args.steps.now) (take (i + 1) c.args.steps.now) c.loop-step.results.items c.push_reserved.new.self.items one c.step-result.result past
          more c.push_reserved.ensures.items (λ j. setting_at (c.loop-step.invariant.core j) (c.loop-step.invariant.stations j)) c.loop-step.invariant.stations
          (c.loop-step.invariant.outcomes past was)
          (λ middle shows. step_made c.loop-step.self.core c.step-result.new.self.core (setting_at c.loop-step.self.core (length c.loop-step.self.stations.items)) (length c.loop-step.self.stations.items)
          c.loop-step.self.stations.items c.step-result.new.self.stations.items c.loop-step.self.sent.items c.step-result.new.self.sent.items one c.step-result.result middle
          shows (c.step-result.ensures.outcome middle shows) c.step-result.ensures.there (c.step-result.ensures.cause middle shows) c.step-result.ensures.first c.step-result.ensures.count c.step-result.ensures.refused);
      room = omega (arith, c.loop-step.invariant.room, c.push_reserved.ensures.len, c.push_reserved.ensures.capacity);
      count = ap (λ (l : List (Result Sent WorldFault)). length l) c.push_reserved.ensures.items ∙ omega (arith, length-append c.loop-step.results.items (c.step-result.result ∷ []), c.loop-step.invariant.count);
      core = c.step-result.ensures.core ∙ c.loop-step.invariant.core;
      stations = c.step-result.ensures.stations ∙ c.loop-step.invariant.stations;
    }

pub returns-clause-outcomes : goal.returns-clause-outcomes
returns-clause-outcomes c past was =
    let all : take c.loop-step.step-index c.args.steps.now ≡ c.args.steps.now = take_all c.loop-step.step-index c.args.steps.now c.loop-step-test.false in
    subst (λ l. LeadsTo c.loop-step.self.core c.loop-step.self.stations.items c.loop-step.self.sent.items
    (λ now. AreStepOutcomes (setting_at c.args.self.now.core (length c.args.self.now.stations.items)) (length c.args.self.now.stations.items) l c.loop-step.results.items past now)) all (c.loop-step.invariant.outcomes past was)
