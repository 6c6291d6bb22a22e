use Rattle.std.proofs.Common.{Bool, ◌≡◌, arith, inr, subst, sym}
use Rattle.std.specs.Prelude.{Err, Ok, Result}
use Rattle.mon_console.specs.declared.failure.Failure.{Failure}
use Rattle.mon_settings_commands.specs.Exchange.{AsksBy}
use Rattle.mon_settings_commands.specs.Walked.{IsColumnWalk, IsTurn, IsWalk, stand, turned, with_cells}
use Rattle.mon_settings_commands.proofs.Exchanged.{asks_so}
use Rattle.mon_settings_commands.proofs.Turning.{ends, goes_on, never_ends}
use Rattle.mon_settings_commands.proofs.Turns.{failure_is}
use Rattle.mon_settings_commands.proofs.asking.walk.Goals as goal

pub returns-in_err-step : goal.returns-in_err-step
returns-in_err-step g c =
    let agent = c.args.asked.agent.word.now in
    let community = c.args.asked.community.now in
    let cells = c.args.answers.now in
    let id = c.args.asker.now.last_id in
    let last = c.step.new.asker.last_id in
    let before = g.W.Wire.log c.args.asker.now.wire in
    let after = g.W.Wire.log c.step.new.asker.wire in
    let failure = c.in_err-step.field-0.0 in
    subst (λ (r : Result (Unit {0}) Failure). AsksBy (λ log. IsWalk agent c.args.column cells log (with_cells c.step.new.answers r)) community id last before after)
    (sym (failure_is c.from_residual-in_err-step.result failure c.from_residual-in_err-step.ensures.1))
    (asks_so community (λ log. IsColumnWalk agent c.args.column cells log (Err failure)) (λ log. IsWalk agent c.args.column cells log (Err failure)) id last before after (λ es one. inr one)
    (ends agent community c.args.column cells (stand c.loop.place c.loop.answers) c.loop.counter (Err failure) id c.loop.asker.last_id last before (g.W.Wire.log c.loop.asker.wire) after
    c.loop-test.true c.loop.invariant c.in_err-step.ensures))

pub returns-then-not-branch : goal.returns-then-not-branch
returns-then-not-branch g c =
    let agent = c.args.asked.agent.word.now in
    let community = c.args.asked.community.now in
    let middle = g.W.Wire.log c.loop.asker.wire in
    let after = g.W.Wire.log c.step.new.asker.wire in
    let turn = subst (λ (b : Bool). AsksBy (λ log. IsTurn agent (stand c.loop.place c.loop.answers) log (turned (stand c.step.new.place c.step.new.answers) (Ok b))) community c.loop.asker.last_id
    c.step.new.asker.last_id middle after) c.if-not-branch.true c.in_ok-step.ensures in
    ends agent community c.args.column c.args.answers.now (stand c.loop.place c.loop.answers) c.loop.counter (Ok c.step.new.answers) c.args.asker.now.last_id c.loop.asker.last_id
    c.step.new.asker.last_id (g.W.Wire.log c.args.asker.now.wire) middle after c.loop-test.true c.loop.invariant turn

pub loop-preserved : goal.loop-preserved
loop-preserved g c =
    let agent = c.args.asked.agent.word.now in
    let community = c.args.asked.community.now in
    let middle = g.W.Wire.log c.loop.asker.wire in
    let after = g.W.Wire.log c.step.new.asker.wire in
    let turn = subst (λ (b : Bool). AsksBy (λ log. IsTurn agent (stand c.loop.place c.loop.answers) log (turned (stand c.step.new.place c.step.new.answers) (Ok b))) community c.loop.asker.last_id
    c.step.new.asker.last_id middle after) c.if-not-branch.false c.in_ok-step.ensures in
    goes_on agent community c.args.column c.args.answers.now (stand c.loop.place c.loop.answers) (stand c.step.new.place c.step.new.answers) c.loop.counter c.args.asker.now.last_id
    c.loop.asker.last_id c.step.new.asker.last_id (g.W.Wire.log c.args.asker.now.wire) middle after c.loop.invariant turn

pub returns : goal.returns
returns g c =
    let agent = c.args.asked.agent.word.now in
    let community = c.args.asked.community.now in
    let cells = c.args.answers.now in
    let id = c.args.asker.now.last_id in
    let last = c.loop.asker.last_id in
    let before = g.W.Wire.log c.args.asker.now.wire in
    let after = g.W.Wire.log c.loop.asker.wire in
    let failure = c.unending.result in
    let full : c.loop.counter ≡ 65536 = omega (arith, c.loop-test.false, c.loop.auto.counter-end) in
    asks_so community (λ log. IsColumnWalk agent c.args.column cells log (Err failure)) (λ log. IsWalk agent c.args.column cells log (Err failure)) id last before after (λ es one. inr one)
    (never_ends agent community c.args.column cells (stand c.loop.place c.loop.answers) c.loop.counter failure id last before after full c.unending.ensures c.loop.invariant)
