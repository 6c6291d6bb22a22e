use Rattle.std.proofs.Common.{◌≡◌, ◌≤◌, ◌+◌, ◌-◌}
use Rattle.mon_agent.specs.State.{policy_of, settings_of}
use Rattle.mon_serving.specs.Served.{AnswersIt, stands}
use Rattle.mon_answers.specs.Answered.{AreArrivals, arrives}
use Rattle.mon_answers.proofs.answering.answer_repeated.Given as goal

-- how often the datagram arrived before the last time
abbrev pub invariant-loop : goal.invariant-loop
invariant-loop g l = record {
  arrived : AreArrivals (arrives (AnswersIt g.D.Device.held g.D.Device.failed g.D.Device.refuses (policy_of l.fn.agent) (settings_of l.fn.agent)) l.datagram l.scene.at)
      (l.counter - 1) (stands l.fn.agent) (stands l.agent);
  few : l.counter ≤ l.scene.times + (1 - l.scene.times);
  policy : policy_of l.agent ≡ policy_of l.fn.agent;
  settings : settings_of l.agent ≡ settings_of l.fn.agent;
}
