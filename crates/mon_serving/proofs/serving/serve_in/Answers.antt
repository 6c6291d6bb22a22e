use Rattle.std.proofs.Common.{List, ℕ, subst, sym}
use Rattle.mon_agent.specs.declared.reply.Reply.{Reply}
use Rattle.mon_agent.specs.declared.reply.Reply.TheVariants.{Send}
use Rattle.mon_agent.specs.State.{policy_of, settings_of}
use Rattle.mon_serving.specs.AtPort.{Happens, IsReplied}
use Rattle.mon_serving.specs.Served.{AnswersIt, IsSent, Takes, stands}
use Rattle.mon_serving.specs.declared.serving.Served.TheVariants.{Answered}
use Rattle.mon_serving.proofs.Servings.{turned}
use Rattle.mon_serving.proofs.serving.serve_in.Goals as goal

pub returns-in-Ok-Send-clause-served : goal.returns-in-Ok-Send-clause-served
returns-in-Ok-Send-clause-served g c =
    let told_0 = g.P.Port.log c.args.port.now in
    let told_1 = g.P.Port.log c.next_datagram.new.port in
    let told_2 = g.P.Port.log c.reply.new.self in
    let count_0 = g.P.Port.failures c.args.port.now in
    let count_1 = g.P.Port.failures c.next_datagram.new.port in
    let count_2 = g.P.Port.failures c.reply.new.self in
    let sent : Happens (IsSent (Send c.in-Ok-Send.octets)) told_1 told_2 count_1 count_2 =
    subst (λ (o : List ℕ). Happens (IsReplied o) told_1 told_2 count_1 count_2) c.deref.ensures.value c.reply.ensures in
    let Answers = AnswersIt g.D.Device.held g.D.Device.failed g.D.Device.refuses (policy_of c.args.agent.now) (settings_of c.args.agent.now) in
    turned (Takes Answers Answered (stands c.args.agent.now) (stands c.answer_into.new.self))
    (IsSent (Send c.in-Ok-Send.octets)) c.next_datagram.new.room c.in_ok-received.received told_0 told_1 told_2 count_0 count_1 count_2
    c.in_ok-received.ensures.awaited sent (λ log is. record {
      reply = c.in-Ok-Send.field-0;
      answer = record { answer = c.in-Ok-Send.ensures.answer; counters = c.in-Ok-Send.ensures.counters };
      sent_for = subst (λ (r : Reply). IsSent r log) (sym c.in-Ok-Send.field-0-is) is;
    })
