use Rattle.std.proofs.Common.{◌∙◌, ◌-◌, ℕ, arith, refl, subst}
use Rattle.mon_vacm.specs.Tables.{PolicyTables}
use Rattle.mon_mib.specs.declared.settings.Settings.{Settings}
use Rattle.mon_agent.specs.declared.reply.Reply.{Reply}
use Rattle.mon_agent.specs.State.{policy_of, settings_of}
use Rattle.mon_serving.specs.Served.{AnswersIt, stands}
use Rattle.mon_answers.specs.Answered.{AreArrivals, IsLastReply, arrives}
use Rattle.mon_answers.proofs.Turns.{if_ok, moved, one_more}
use Rattle.mon_answers.proofs.answering.answer_repeated.Goals as goal

pub loop-init : goal.loop-init
loop-init g c = record { arrived = refl; few = omega arith; policy = refl; settings = refl }

pub loop-preserved : goal.loop-preserved
loop-preserved g c =
    let Answers = AnswersIt g.D.Device.held g.D.Device.failed g.D.Device.refuses in
    let before = stands c.args.agent.now in
    let between = stands c.loop.agent in
    let after = stands c.answer_once.new.agent in
    let reply = c.in_ok-answer_once.field-0 in
    let Arrives = arrives (Answers (policy_of c.args.agent.now) (settings_of c.args.agent.now)) c.args.datagram.now c.args.scene.now.at in
    let last = moved (λ (p : PolicyTables) (s : Settings). Answers p s between after c.args.datagram.now c.args.scene.now.at reply)
    (policy_of c.loop.agent) (policy_of c.args.agent.now) (settings_of c.loop.agent) (settings_of c.args.agent.now) c.loop.invariant.policy c.loop.invariant.settings
    c.in_ok-answer_once.ensures.reply in
    record {
      arrived = subst (λ (n : ℕ). AreArrivals Arrives n before after) (omega arith) (one_more Arrives (c.loop.counter - 1) before between after reply c.loop.invariant.arrived last);
      few = omega arith;
      policy = c.answer_once.ensures.policy ∙ c.loop.invariant.policy;
      settings = c.answer_once.ensures.settings ∙ c.loop.invariant.settings;
    }

pub returns-clause-reply : goal.returns-clause-reply
returns-clause-reply g c =
    let Answers = AnswersIt g.D.Device.held g.D.Device.failed g.D.Device.refuses in
    let before = stands c.args.agent.now in
    let between = stands c.loop.agent in
    let after = stands c.answer_once-2.new.agent in
    let Arrives = arrives (Answers (policy_of c.args.agent.now) (settings_of c.args.agent.now)) c.args.datagram.now c.args.scene.now.at in
    if_ok (λ (reply : Reply). Answers (policy_of c.loop.agent) (settings_of c.loop.agent) between after c.args.datagram.now c.args.scene.now.at reply)
    (IsLastReply Arrives c.args.scene.now.times before after) c.answer_once-2.result (λ reply last. record {
      between = between;
      earlier = subst (λ (n : ℕ). AreArrivals Arrives n before between) (omega arith) c.loop.invariant.arrived;
      last = moved (λ (p : PolicyTables) (s : Settings). Answers p s between after c.args.datagram.now c.args.scene.now.at reply)
          (policy_of c.loop.agent) (policy_of c.args.agent.now) (settings_of c.loop.agent) (settings_of c.args.agent.now) c.loop.invariant.policy c.loop.invariant.settings last;
    }) c.answer_once-2.ensures.reply

pub returns-clause-policy : goal.returns-clause-policy
returns-clause-policy g c = c.answer_once-2.ensures.policy ∙ c.loop.invariant.policy

pub returns-clause-settings : goal.returns-clause-settings
returns-clause-settings g c = c.answer_once-2.ensures.settings ∙ c.loop.invariant.settings
