use Rattle.std.proofs.Common.{◌∙◌, arith, sym, subst, take}
use Rattle.std.specs.Prelude.{Result, Option}
use Rattle.mon_udp.specs.Told.{GoesOnBy}
use Rattle.mon_pdu.specs.declared.message.Message.{Message}
use Rattle.mon_app.specs.declared.fault.AppFault.{AppFault}
use Rattle.mon_app.specs.declared.fault.AppFault.TheVariants.{OutOfMemory}
use Rattle.mon_client.specs.declared.wire.Heard.TheVariants.{Datagram, Other, Quiet}
use Rattle.mon_client.specs.Asking.{IsWait}
use Rattle.mon_client.specs.Question.{asked_in}
use Rattle.mon_client.proofs.Askings.{fault_is, happened, no_room, one_heard, quiet, reply_heard}
use Rattle.mon_client.proofs.asking.take_reply.Goals as goal
use Rattle.mon_client.proofs.asking.take_reply.Goals.{in-Other, in-Datagram+in_ok-reply-in-Datagram+in_default}

pub returns-in-Quiet-clause-wait : goal.returns-in-Quiet-clause-wait
returns-in-Quiet-clause-wait g c =
    let told = happened (g.W.Wire.log c.loop.wire) (g.W.Wire.log c.receive.new.self) c.receive.new.room c.receive.result c.in_ok-receive.field-0 Quiet
    c.receive.ensures.log c.in_ok-receive.was c.in-Quiet.is in
    quiet (asked_in c.args.question.now) c.loop.counter (g.W.Wire.log c.args.wire.now) (g.W.Wire.log c.loop.wire) (g.W.Wire.log c.receive.new.self)
    c.loop.invariant.heard (omega arith) told

pub returns-in_err-reply-in-Datagram-clause-wait : goal.returns-in_err-reply-in-Datagram-clause-wait
returns-in_err-reply-in-Datagram-clause-wait g c =
    let told = happened (g.W.Wire.log c.loop.wire) (g.W.Wire.log c.receive.new.self) c.receive.new.room c.receive.result c.in_ok-receive.field-0
    (Datagram c.in-Datagram.len) c.receive.ensures.log c.in_ok-receive.was c.in-Datagram.is in
    let is = fault_is c.from_residual-in_err-reply-in-Datagram.result OutOfMemory c.from_residual-in_err-reply-in-Datagram.ensures.1 in
    subst (λ (r : Result (Option Message) AppFault). GoesOnBy (λ log. IsWait (asked_in c.args.question.now) log r) (g.W.Wire.log c.args.wire.now) (g.W.Wire.log c.receive.new.self))
    (sym is) (no_room (asked_in c.args.question.now) c.loop.counter (g.W.Wire.log c.args.wire.now) (g.W.Wire.log c.loop.wire) (g.W.Wire.log c.receive.new.self)
    (take c.in-Datagram.len c.receive.new.room) c.loop.invariant.heard (omega arith) told)

pub returns-in-Some-clause-wait : goal.returns-in-Some-clause-wait
returns-in-Some-clause-wait g c =
    let told = happened (g.W.Wire.log c.loop.wire) (g.W.Wire.log c.receive.new.self) c.receive.new.room c.receive.result c.in_ok-receive.field-0
    (Datagram c.in-Datagram.len) c.receive.ensures.log c.in_ok-receive.was c.in-Datagram.is in
    let found = rw c.in-Some.is at c.in_ok-reply-in-Datagram.ensures.found in
    reply_heard (asked_in c.args.question.now) c.loop.counter (g.W.Wire.log c.args.wire.now) (g.W.Wire.log c.loop.wire) (g.W.Wire.log c.receive.new.self)
    (take c.in-Datagram.len c.receive.new.room) c.in-Some.reply c.loop.invariant.heard (omega arith) found told

pub loop-preserved : goal.loop-preserved
loop-preserved g c =
    let q = asked_in c.args.question.now in
    record {
      heard = elim c.match-branch-2.branch [
        | in-Other w ↦ one_heard q c.loop.counter (g.W.Wire.log c.args.wire.now) (g.W.Wire.log c.loop.wire) (g.W.Wire.log c.receive.new.self) _ c.loop.invariant.heard tt
            (happened (g.W.Wire.log c.loop.wire) (g.W.Wire.log c.receive.new.self) c.receive.new.room c.receive.result c.in_ok-receive.field-0 Other
            c.receive.ensures.log c.in_ok-receive.was w.in-Other.is)
        | in-Datagram+in_ok-reply-in-Datagram+in_default w ↦ (
            let none = rw w.in_default.is at w.in_ok-reply-in-Datagram.ensures.none in
            one_heard q c.loop.counter (g.W.Wire.log c.args.wire.now) (g.W.Wire.log c.loop.wire) (g.W.Wire.log c.receive.new.self) _ c.loop.invariant.heard none
            (happened (g.W.Wire.log c.loop.wire) (g.W.Wire.log c.receive.new.self) c.receive.new.room c.receive.result c.in_ok-receive.field-0 (Datagram w.in-Datagram.len)
            c.receive.ensures.log c.in_ok-receive.was w.in-Datagram.is))
      ];
      failures = c.in_ok-receive.ensures.failures ∙ c.loop.invariant.failures;
    }
