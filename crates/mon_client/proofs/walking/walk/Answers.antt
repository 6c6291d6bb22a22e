use Rattle.std.proofs.Common.{Bool, [], refl, subst, sym}
use Rattle.std.specs.Prelude.{Ok, Result}
use Rattle.mon_client.specs.declared.fault.WalkFault.{WalkFault}
use Rattle.mon_client.specs.Walk.{IsNotedAfter, IsWalk, question_after}
use Rattle.mon_client.proofs.Askings.{fault_is}
use Rattle.mon_client.proofs.Walks.{Both, noted_after, noted_failure, unnoted}
use Rattle.mon_client.proofs.walking.walk.Goals as goal
use Rattle.mon_host.proofs.Promised.{stays}
use Rattle.mon_host.specs.Log.{GoesOnBy}

pub returns-in_err-printed-clause-walk : goal.returns-in_err-printed-clause-walk
returns-in_err-printed-clause-walk g c =
    let show = g.S.NameTexts.shown c.args.names.now in
    let fault = c.in_err-printed.field-0.0 in
    let is = fault_is c.from_residual.result fault c.from_residual.ensures.1 in
    let before = g.W.Wire.log c.args.wire.now in
    let after = g.W.Wire.log c.walk_through.new.wire in
    let text = g.H.Host.log c.args.host.now in
    let said = g.H.Host.log c.walk_through.new.host in
    subst (λ (r : Result (Unit {0}) WalkFault). Both (λ log said. IsWalk show (question_after c.args.asked.now) c.args.asked.now.start.now log said r) before after text said) (sym is)
    (unnoted show (question_after c.args.asked.now) c.args.asked.now.start.now before after text said fault c.in_err-printed.ensures.walk)

pub returns-then-printed-clause-walk : goal.returns-then-printed-clause-walk
returns-then-printed-clause-walk g c =
    let show = g.S.NameTexts.shown c.args.names.now in
    let start = c.args.asked.now.start.now in
    let printed = c.in_ok-printed.printed in
    let said = g.H.Host.log c.walk_through.new.host in
    let none = subst (λ (b : Bool). GoesOnBy (λ line. IsNotedAfter (show start) b line (Ok tt)) said said) (sym c.if-printed.true) (record { more = []; holds = (refl, refl); on = stays said }) in
    noted_after show (question_after c.args.asked.now) start (g.W.Wire.log c.args.wire.now) (g.W.Wire.log c.walk_through.new.wire) (g.H.Host.log c.args.host.now) said said printed (Ok tt)
    c.in_ok-printed.ensures.walk none

pub returns-clause-walk : goal.returns-clause-walk
returns-clause-walk g c =
    let show = g.S.NameTexts.shown c.args.names.now in
    let start = c.args.asked.now.start.now in
    let printed = c.in_ok-printed.printed in
    let said = g.H.Host.log c.walk_through.new.host in
    let end = g.H.Host.log c.note_empty.new.host in
    let r = c.note_empty.result in
    let noted = subst (λ (b : Bool). GoesOnBy (λ line. IsNotedAfter (show start) b line r) said end) (sym c.if-printed.false) c.note_empty.ensures.said in
    noted_after show (question_after c.args.asked.now) start (g.W.Wire.log c.args.wire.now) (g.W.Wire.log c.walk_through.new.wire) (g.H.Host.log c.args.host.now) said end printed r
    c.in_ok-printed.ensures.walk noted

pub returns-clause-failures : goal.returns-clause-failures
returns-clause-failures g c = noted_failure c.note_empty.result (g.W.Wire.failures c.args.wire.now) (g.W.Wire.failures c.walk_through.new.wire) c.note_empty.ensures.fault c.in_ok-printed.ensures.failures
