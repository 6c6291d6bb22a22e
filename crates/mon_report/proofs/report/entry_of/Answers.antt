use Rattle.std.proofs.Common.{◌≡◌, ◌≤◌, ◌-◌, ◌∙◌, length, drop, take, ap, arith}
use Rattle.mon_report.specs.Report.{alarms_from, rules_on}
use Rattle.mon_report.proofs.Ranges.{alarms-between, rules-between}
use Rattle.mon_report.proofs.report.entry_of.Goals as goal

pub returns : goal.returns
returns c =
    let range = c.range_of-first.result in
    let of = c.range_of-first.ensures in
    let states = c.args.states.now in
    let i = c.args.i in
    let all = c.rules-rules.result.now in
    let is : all ≡ c.args.board.now.watch.rules = c.rules-rules.ensures.rules ∙ ap (λ w. w.rules) c.watch.ensures.watch in
    let first : range.0 ≤ length all = omega (arith, of.ordered, of.bound) in
    let own = rules-between all i range.0 range.1 first of.before of.after in
    let alarms = alarms-between all i range.0 range.1 first of.before of.after states c.items.result.now in
    let lent = take (range.1 - range.0) (drop range.0 all) in
    λ j. record {
      engine = c.as_slice.ensures j;
      name = c.args.watched.now.instance.name;
      items = c.items.ensures.items j;
      rules = (own ∙ ap (rules_on i) is) j;
      alarms = (ap (λ l. alarms_from l i c.items.result.now 0 lent) c.states_from.ensures ∙ alarms ∙ (λ l. alarms_from states i (c.items.ensures.items l) 0 (is l))) j;
    }
