use Rattle.std.proofs.Common.{◌≡◌, ◌∙◌, ap, arith, sym, subst}
use Rattle.std.specs.Prelude.{Result, Ok, Err, Option, Some}
use Rattle.mon_udp.specs.Told.{GoesOnBy}
use Rattle.mon_pdu.specs.declared.message.Message.{Message}
use Rattle.mon_pdu.specs.Writing.{written_message}
use Rattle.mon_app.specs.AppFault.{of_message}
use Rattle.mon_app.specs.declared.fault.AppFault.{AppFault}
use Rattle.mon_app.specs.declared.fault.AppFault.TheVariants.{OutOfMemory}
use Rattle.mon_client.specs.Asking.{IsAsked, IsWait, request_octets}
use Rattle.mon_client.specs.Question.{asked_in}
use Rattle.mon_client.proofs.Askings.{fault_is, fault_of_wait, last_sent, no_request, one_sent, unwritable}
use Rattle.mon_client.proofs.asking.send_request.Goals as goal

pub returns-in_err-request-clause-asked : goal.returns-in_err-request-clause-asked
returns-in_err-request-clause-asked g c =
    let is = fault_is c.from_residual.result OutOfMemory c.from_residual.ensures.1 in
    subst (λ (r : Result Message AppFault). GoesOnBy (λ log. IsAsked (asked_in c.args.question.now) log r) (g.W.Wire.log c.args.wire.now) (g.W.Wire.log c.args.wire.now))
    (sym is) (no_request (asked_in c.args.question.now) (g.W.Wire.log c.args.wire.now))

pub returns-in_err-octets-clause-asked : goal.returns-in_err-octets-clause-asked
returns-in_err-octets-clause-asked g c =
    let is = fault_is c.from_residual-in_err-octets.result (of_message c.in_err-octets.field-0.0) c.from_residual-in_err-octets.ensures.1 in
    subst (λ (r : Result Message AppFault). GoesOnBy (λ log. IsAsked (asked_in c.args.question.now) log r) (g.W.Wire.log c.args.wire.now) (g.W.Wire.log c.args.wire.now))
    (sym is) (unwritable (asked_in c.args.question.now) (g.W.Wire.log c.args.wire.now) c.in_ok-request.field-0 c.in_err-octets.field-0.0 c.in_ok-request.ensures c.in_err-octets.ensures.err)

pub returns-in_err-room-clause-asked : goal.returns-in_err-room-clause-asked
returns-in_err-room-clause-asked g c =
    let is = fault_is c.from_residual-in_err-room.result OutOfMemory c.from_residual-in_err-room.ensures.1 in
    subst (λ (r : Result Message AppFault). GoesOnBy (λ log. IsAsked (asked_in c.args.question.now) log r) (g.W.Wire.log c.args.wire.now) (g.W.Wire.log c.args.wire.now))
    (sym is) (no_request (asked_in c.args.question.now) (g.W.Wire.log c.args.wire.now))

pub returns-in_err-reply-clause-asked : goal.returns-in_err-reply-clause-asked
returns-in_err-reply-clause-asked g c =
    let q = asked_in c.args.question.now in
    let are : c.as_slice.result.now ≡ request_octets q = c.as_slice.ensures.value ∙ (c.in_ok-octets.ensures.ok.1 ∙ ap written_message c.in_ok-request.ensures) in
    let is = fault_is c.from_residual-in_err-reply.result c.in_err-reply.field-0.0 c.from_residual-in_err-reply.ensures.1 in
    subst (λ (r : Result Message AppFault). GoesOnBy (λ log. IsAsked q log r) (g.W.Wire.log c.args.wire.now) (g.W.Wire.log c.take_reply.new.wire)) (sym is)
    (fault_of_wait q (g.W.Wire.log c.args.wire.now) (g.W.Wire.log c.take_reply.new.wire) c.in_err-reply.field-0.0
    (last_sent q c.loop.counter (g.W.Wire.log c.args.wire.now) (g.W.Wire.log c.loop.wire) (g.W.Wire.log c.send.new.self) (g.W.Wire.log c.take_reply.new.wire)
    c.as_slice.result.now (Err c.in_err-reply.field-0.0) c.loop.invariant.sent (omega arith) are c.in_ok-send.ensures.log c.in_err-reply.ensures.wait))

pub returns-in-Some-clause-asked : goal.returns-in-Some-clause-asked
returns-in-Some-clause-asked g c =
    let q = asked_in c.args.question.now in
    let are : c.as_slice.result.now ≡ request_octets q = c.as_slice.ensures.value ∙ (c.in_ok-octets.ensures.ok.1 ∙ ap written_message c.in_ok-request.ensures) in
    let wait = subst (λ (o : Option Message). GoesOnBy (λ log. IsWait q log (Ok o)) (g.W.Wire.log c.send.new.self) (g.W.Wire.log c.take_reply.new.wire)) c.in-Some.is c.in_ok-reply.ensures.wait in
    last_sent q c.loop.counter (g.W.Wire.log c.args.wire.now) (g.W.Wire.log c.loop.wire) (g.W.Wire.log c.send.new.self) (g.W.Wire.log c.take_reply.new.wire)
    c.as_slice.result.now (Ok (Some c.in-Some.reply)) c.loop.invariant.sent (omega arith) are c.in_ok-send.ensures.log wait

pub loop-preserved : goal.loop-preserved
loop-preserved g c =
    let q = asked_in c.args.question.now in
    let are : c.as_slice.result.now ≡ request_octets q = c.as_slice.ensures.value ∙ (c.in_ok-octets.ensures.ok.1 ∙ ap written_message c.in_ok-request.ensures) in
    let wait = subst (λ (o : Option Message). GoesOnBy (λ log. IsWait q log (Ok o)) (g.W.Wire.log c.send.new.self) (g.W.Wire.log c.take_reply.new.wire)) c.in_default.is c.in_ok-reply.ensures.wait in
    record {
      sent = one_sent q c.loop.counter (g.W.Wire.log c.args.wire.now) (g.W.Wire.log c.loop.wire) (g.W.Wire.log c.send.new.self) (g.W.Wire.log c.take_reply.new.wire)
          c.as_slice.result.now c.loop.invariant.sent are c.in_ok-send.ensures.log wait;
      failures = c.in_ok-reply.ensures.failures ∙ (c.in_ok-send.ensures.failures ∙ c.loop.invariant.failures);
    }
