use Rattle.std.proofs.Common.{◌≡◌, rules, subst, sym}
use Rattle.std.specs.Prelude.{Result}
use Rattle.mon_console.specs.declared.failure.Failure.{Failure}
use Rattle.mon_survey.specs.Column.{columns}
use Rattle.mon_settings_commands.specs.Exchange.{AsksBy}
use Rattle.mon_settings_commands.specs.Surveyed.{AreWalked}
use Rattle.mon_settings_commands.specs.Walked.{with_cells}
use Rattle.mon_settings_commands.proofs.Turning.{through_all, through_fails, through_one}
use Rattle.mon_settings_commands.proofs.Turns.{failure_is}
use Rattle.mon_settings_commands.proofs.asking.walk_columns.Goals as goal

pub returns-in_err-walk_if_needed : goal.returns-in_err-walk_if_needed
returns-in_err-walk_if_needed g c =
    let agent = c.args.asked.agent.word.now in
    let kinds = c.args.asked.kinds in
    let community = c.args.asked.community.now in
    let cells = c.args.answers.now in
    let id = c.args.asker.now.last_id in
    let last = c.walk_if_needed.new.asker.last_id in
    let before = g.W.Wire.log c.args.asker.now.wire in
    let after = g.W.Wire.log c.walk_if_needed.new.asker.wire in
    let failure = c.in_err-walk_if_needed.field-0.0 in
    let same : c.as_slice-column-items.result.now ≡ columns = search rules in
    subst (λ (r : Result (Unit {0}) Failure). AsksBy (λ log. AreWalked agent kinds columns cells log (with_cells c.walk_if_needed.new.answers r)) community id last before after)
    (sym (failure_is c.from_residual.result failure c.from_residual.ensures.1))
    (through_fails agent kinds community columns cells id before c.as_slice-column-items.result.now c.loop-column.column-index _ c.loop-column.answers failure c.loop-column.asker.last_id last
    (g.W.Wire.log c.loop-column.asker.wire) after same c.loop-column-test.true c.loop-column.invariant c.in_err-walk_if_needed.ensures)

pub loop-column-preserved : goal.loop-column-preserved
loop-column-preserved g c =
    let same : c.as_slice-column-items.result.now ≡ columns = search rules in
    through_one c.args.asked.agent.word.now c.args.asked.kinds c.args.asked.community.now columns c.args.answers.now c.args.asker.now.last_id (g.W.Wire.log c.args.asker.now.wire)
    c.as_slice-column-items.result.now c.loop-column.column-index _ c.loop-column.answers c.walk_if_needed.new.answers c.loop-column.asker.last_id c.walk_if_needed.new.asker.last_id
    (g.W.Wire.log c.loop-column.asker.wire) (g.W.Wire.log c.walk_if_needed.new.asker.wire) same c.loop-column-test.true c.loop-column.invariant c.in_ok-walk_if_needed.ensures

pub returns : goal.returns
returns g c =
    let same : c.as_slice-column-items.result.now ≡ columns = search rules in
    through_all c.args.asked.agent.word.now c.args.asked.kinds c.args.asked.community.now columns c.args.answers.now c.args.asker.now.last_id (g.W.Wire.log c.args.asker.now.wire)
    c.as_slice-column-items.result.now c.loop-column.column-index c.loop-column.answers c.loop-column.asker.last_id (g.W.Wire.log c.loop-column.asker.wire) same c.loop-column-test.false
    c.loop-column.invariant
