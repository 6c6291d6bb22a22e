use Rattle.std.proofs.Common.{length, refl, subst}
use Rattle.mon_station.specs.declared.event.Event.TheVariants.{StartPoll}
use Rattle.mon_world.specs.declared.step.Step.TheVariants as step
use Rattle.mon_world.specs.Outcome.{Does, Hands}
use Rattle.mon_world.specs.Places.{setting_at}
use Rattle.mon_world.specs.Shows.{LeadsTo}
use Rattle.mon_world.proofs.Causes.{no_reason, reason_of}
use Rattle.mon_world.proofs.Kept.{kept_on}
use Rattle.mon_world.proofs.Outcomes.{cause_of, none_sent, outcome_of, stay_on, there_of}
use Rattle.mon_world.proofs.world.World.step.Goals as goal

pub returns-in-StartPoll : goal.returns-in-StartPoll
returns-in-StartPoll c =
    let self = c.args.self.now in
    let new = c.handle.new.self in
    let result = c.handle.result in
    let n = length self.stations.items in
    let m = length self.sent.items in
    let settings = setting_at self.core n in
    let this = (step.StartPoll c.in-StartPoll.s c.in-StartPoll.target) in
    record {
      outcome = λ past was. outcome_of new.core new.stations.items new.sent.items settings c.args.step this result past c.in-StartPoll.is
          (subst (λ t. LeadsTo new.core new.stations.items new.sent.items (λ now. Does (Hands (settings c.in-StartPoll.s) c.in-StartPoll.s (StartPoll t)) c.handle.result past now)) c.target_number.ensures (c.handle.ensures.outcome past was));
      there = there_of n m c.args.step this result c.in-StartPoll.is c.handle.ensures.there;
      cause = λ past was. cause_of n m c.args.step this result c.in-StartPoll.is c.handle.ensures.cause;
      reason = reason_of self.core.watch self.stations.items new.stations.items c.args.step this result c.in-StartPoll.is (no_reason self.core.watch self.stations.items new.stations.items this result (λ f. tt));
      first = c.handle.ensures.first;
      count = c.handle.ensures.count;
      refused = c.handle.ensures.refused;
      kept = c.handle.ensures.kept;
      core = c.handle.ensures.core;
      stations = c.handle.ensures.stations;
    }

pub returns-in-AgentSays : goal.returns-in-AgentSays
returns-in-AgentSays c =
    let self = c.args.self.now in
    let new = c.hear.new.self in
    let result = c.hear.result in
    let n = length self.stations.items in
    let m = length self.sent.items in
    let settings = setting_at self.core n in
    let this = (step.AgentSays c.in-AgentSays.s c.in-AgentSays.target c.in-AgentSays.octets) in
    record {
      outcome = λ past was. outcome_of new.core new.stations.items new.sent.items settings c.args.step this result past c.in-AgentSays.is
          (c.hear.ensures.outcome past was);
      there = there_of n m c.args.step this result c.in-AgentSays.is c.hear.ensures.there;
      cause = λ past was. cause_of n m c.args.step this result c.in-AgentSays.is c.hear.ensures.cause;
      reason = reason_of self.core.watch self.stations.items new.stations.items c.args.step this result c.in-AgentSays.is (no_reason self.core.watch self.stations.items new.stations.items this result (λ f. tt));
      first = c.hear.ensures.first;
      count = c.hear.ensures.count;
      refused = c.hear.ensures.refused;
      kept = c.hear.ensures.kept;
      core = c.hear.ensures.core;
      stations = c.hear.ensures.stations;
    }

pub returns-in-Timeout : goal.returns-in-Timeout
returns-in-Timeout c =
    let self = c.args.self.now in
    let new = c.handle-in-Timeout.new.self in
    let result = c.handle-in-Timeout.result in
    let n = length self.stations.items in
    let m = length self.sent.items in
    let settings = setting_at self.core n in
    let this = (step.Timeout c.in-Timeout.s c.in-Timeout.id) in
    record {
      outcome = λ past was. outcome_of new.core new.stations.items new.sent.items settings c.args.step this result past c.in-Timeout.is
          (c.handle-in-Timeout.ensures.outcome past was);
      there = there_of n m c.args.step this result c.in-Timeout.is c.handle-in-Timeout.ensures.there;
      cause = λ past was. cause_of n m c.args.step this result c.in-Timeout.is c.handle-in-Timeout.ensures.cause;
      reason = reason_of self.core.watch self.stations.items new.stations.items c.args.step this result c.in-Timeout.is (no_reason self.core.watch self.stations.items new.stations.items this result (λ f. tt));
      first = c.handle-in-Timeout.ensures.first;
      count = c.handle-in-Timeout.ensures.count;
      refused = c.handle-in-Timeout.ensures.refused;
      kept = c.handle-in-Timeout.ensures.kept;
      core = c.handle-in-Timeout.ensures.core;
      stations = c.handle-in-Timeout.ensures.stations;
    }

pub returns-in-Share : goal.returns-in-Share
returns-in-Share c =
    let self = c.args.self.now in
    let new = c.handle-in-Share.new.self in
    let result = c.handle-in-Share.result in
    let n = length self.stations.items in
    let m = length self.sent.items in
    let settings = setting_at self.core n in
    let this = (step.Share c.in-Share.s c.in-Share.peer) in
    record {
      outcome = λ past was. outcome_of new.core new.stations.items new.sent.items settings c.args.step this result past c.in-Share.is
          (c.handle-in-Share.ensures.outcome past was);
      there = there_of n m c.args.step this result c.in-Share.is c.handle-in-Share.ensures.there;
      cause = λ past was. cause_of n m c.args.step this result c.in-Share.is c.handle-in-Share.ensures.cause;
      reason = reason_of self.core.watch self.stations.items new.stations.items c.args.step this result c.in-Share.is (no_reason self.core.watch self.stations.items new.stations.items this result (λ f. tt));
      first = c.handle-in-Share.ensures.first;
      count = c.handle-in-Share.ensures.count;
      refused = c.handle-in-Share.ensures.refused;
      kept = c.handle-in-Share.ensures.kept;
      core = c.handle-in-Share.ensures.core;
      stations = c.handle-in-Share.ensures.stations;
    }

pub returns-in-Deliver : goal.returns-in-Deliver
returns-in-Deliver c =
    let self = c.args.self.now in
    let new = c.deliver.new.self in
    let result = c.deliver.result in
    let n = length self.stations.items in
    let m = length self.sent.items in
    let settings = setting_at self.core n in
    let this = (step.Deliver c.in-Deliver.number) in
    record {
      outcome = λ past was. outcome_of new.core new.stations.items new.sent.items settings c.args.step this result past c.in-Deliver.is
          (c.deliver.ensures.outcome past was);
      there = there_of n m c.args.step this result c.in-Deliver.is c.deliver.ensures.there;
      cause = λ past was. cause_of n m c.args.step this result c.in-Deliver.is (c.deliver.ensures.cause past was);
      reason = reason_of self.core.watch self.stations.items new.stations.items c.args.step this result c.in-Deliver.is (no_reason self.core.watch self.stations.items new.stations.items this result (λ f. tt));
      first = c.deliver.ensures.first;
      count = c.deliver.ensures.count;
      refused = c.deliver.ensures.refused;
      kept = c.deliver.ensures.kept;
      core = c.deliver.ensures.core;
      stations = c.deliver.ensures.stations;
    }

pub returns-in-Save : goal.returns-in-Save
returns-in-Save c =
    let self = c.args.self.now in
    let new = c.handle-in-Save.new.self in
    let result = c.handle-in-Save.result in
    let n = length self.stations.items in
    let m = length self.sent.items in
    let settings = setting_at self.core n in
    let this = (step.Save c.in-Save.s) in
    record {
      outcome = λ past was. outcome_of new.core new.stations.items new.sent.items settings c.args.step this result past c.in-Save.is
          (c.handle-in-Save.ensures.outcome past was);
      there = there_of n m c.args.step this result c.in-Save.is c.handle-in-Save.ensures.there;
      cause = λ past was. cause_of n m c.args.step this result c.in-Save.is (c.handle-in-Save.ensures.saving refl);
      reason = reason_of self.core.watch self.stations.items new.stations.items c.args.step this result c.in-Save.is (c.handle-in-Save.ensures.reason refl);
      first = c.handle-in-Save.ensures.first;
      count = c.handle-in-Save.ensures.count;
      refused = c.handle-in-Save.ensures.refused;
      kept = c.handle-in-Save.ensures.kept;
      core = c.handle-in-Save.ensures.core;
      stations = c.handle-in-Save.ensures.stations;
    }

pub returns-in-Restart : goal.returns-in-Restart
returns-in-Restart c =
    let self = c.args.self.now in
    let new = c.restart.new.self in
    let result = c.restart.result in
    let n = length self.stations.items in
    let m = length self.sent.items in
    let settings = setting_at self.core n in
    let this = (step.Restart c.in-Restart.s) in
    record {
      outcome = λ past was. outcome_of new.core new.stations.items new.sent.items settings c.args.step this result past c.in-Restart.is
          (c.restart.ensures.outcome past was);
      there = there_of n m c.args.step this result c.in-Restart.is c.restart.ensures.there;
      cause = λ past was. cause_of n m c.args.step this result c.in-Restart.is c.restart.ensures.cause;
      reason = reason_of self.core.watch self.stations.items new.stations.items c.args.step this result c.in-Restart.is (c.restart.ensures.reason);
      first = c.restart.ensures.first;
      count = none_sent self.sent.items new.sent.items result c.restart.ensures.sent c.restart.ensures.none;
      refused = stay_on self.sent.items new.sent.items result c.restart.ensures.sent;
      kept = kept_on result self.stations.items new.stations.items c.restart.ensures.refused;
      core = c.restart.ensures.core;
      stations = c.restart.ensures.stations;
    }

pub returns-in-Forge : goal.returns-in-Forge
returns-in-Forge c =
    let self = c.args.self.now in
    let new = c.handle-in-Forge.new.self in
    let result = c.handle-in-Forge.result in
    let n = length self.stations.items in
    let m = length self.sent.items in
    let settings = setting_at self.core n in
    let this = (step.Forge c.in-Forge.s c.in-Forge.octets) in
    record {
      outcome = λ past was. outcome_of new.core new.stations.items new.sent.items settings c.args.step this result past c.in-Forge.is
          (c.handle-in-Forge.ensures.outcome past was);
      there = there_of n m c.args.step this result c.in-Forge.is c.handle-in-Forge.ensures.there;
      cause = λ past was. cause_of n m c.args.step this result c.in-Forge.is c.handle-in-Forge.ensures.cause;
      reason = reason_of self.core.watch self.stations.items new.stations.items c.args.step this result c.in-Forge.is (no_reason self.core.watch self.stations.items new.stations.items this result (λ f. tt));
      first = c.handle-in-Forge.ensures.first;
      count = c.handle-in-Forge.ensures.count;
      refused = c.handle-in-Forge.ensures.refused;
      kept = c.handle-in-Forge.ensures.kept;
      core = c.handle-in-Forge.ensures.core;
      stations = c.handle-in-Forge.ensures.stations;
    }

pub returns-in-Stop : goal.returns-in-Stop
returns-in-Stop c =
    let self = c.args.self.now in
    let new = c.stop.new.self in
    let result = c.stop.result in
    let n = length self.stations.items in
    let m = length self.sent.items in
    let settings = setting_at self.core n in
    let this = (step.Stop c.in-Stop.s c.in-Stop.calls c.in-Stop.keep) in
    record {
      outcome = λ past was. outcome_of new.core new.stations.items new.sent.items settings c.args.step this result past c.in-Stop.is
          (c.stop.ensures.outcome past was);
      there = there_of n m c.args.step this result c.in-Stop.is c.stop.ensures.there;
      cause = λ past was. cause_of n m c.args.step this result c.in-Stop.is c.stop.ensures.cause;
      reason = reason_of self.core.watch self.stations.items new.stations.items c.args.step this result c.in-Stop.is (c.stop.ensures.reason);
      first = c.stop.ensures.first;
      count = none_sent self.sent.items new.sent.items result c.stop.ensures.sent c.stop.ensures.none;
      refused = stay_on self.sent.items new.sent.items result c.stop.ensures.sent;
      kept = kept_on result self.stations.items new.stations.items c.stop.ensures.refused;
      core = c.stop.ensures.core;
      stations = c.stop.ensures.stations;
    }
