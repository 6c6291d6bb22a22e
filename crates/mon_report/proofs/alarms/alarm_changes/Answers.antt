use Rattle.std.proofs.Common.{◌≡◌, ◌≤◌, length, map, ap, ◌∙◌, arith}
use Rattle.std.specs.Prelude.{min}
use Rattle.mon_report.specs.Alarms.{changes_from}
use Rattle.mon_report.proofs.Changing.{none_left}
use Rattle.mon_report.proofs.alarms.alarm_changes.Goals as goal

pub returns : goal.returns
returns c =
    let b = c.args.board.now in
    let seen = c.args.seen.now in
    let rules = c.rules-rules.result.now in
    let is : rules ≡ b.watch.rules = c.rules-rules.ensures.rules ∙ ap (λ w. w.rules) c.watch.ensures.watch in
    let end : min (length rules) (length seen) ≤ c.loop-number.number = omega (arith, c.loop-number-test.false, c.min-number-end.ensures) in
    none_left (λ w. w.items) b c.loop-number.number rules seen c.loop-number.changes.items _ end c.loop-number.invariant ∙ ap (λ rs. changes_from b 0 rs (map (λ w. w.items) seen)) is
