use Rattle.std.proofs.Common.{◌≡◌, map, string_bytes}
use Rattle.std.specs.List.{filter}
use Rattle.mon_agent.specs.State.{policy_of, settings_of}
use Rattle.mon_serving.specs.Served.{AnswersIt, stands}
use Rattle.mon_answers.specs.Answered.{ArePrinted, is_read}
use Rattle.mon_answers.proofs.answering.answer_lines.Given as goal

-- what is printed for the lines so far
abbrev pub invariant-loop-line : goal.invariant-loop-line
invariant-loop-line g l = record {
  printed : ArePrinted (AnswersIt g.D.Device.held g.D.Device.failed g.D.Device.refuses (policy_of l.fn.agent) (settings_of l.fn.agent)) l.scene
      (filter is_read (map (λ line. line.now) l.yielded)) (stands l.fn.agent) (stands l.agent) (string_bytes l.printed);
  policy : policy_of l.agent ≡ policy_of l.fn.agent;
  settings : settings_of l.agent ≡ settings_of l.fn.agent;
}
