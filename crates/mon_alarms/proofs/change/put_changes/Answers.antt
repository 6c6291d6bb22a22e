use Rattle.std.proofs.Common.{◌≡◌, ◌++◌, [], sym, ap, ◌∙◌, append-nil}
use Rattle.mon_alarms.specs.Changes.{changes_of, with_rule}
use Rattle.mon_alarms.proofs.Reported.{reports_once}
use Rattle.mon_alarms.proofs.change.put_changes.Goals as goal

pub returns-then-are_equal : goal.returns-then-are_equal
returns-then-are_equal c =
    let rule = c.args.rule.now in
    let n = c.args.number in
    let none : changes_of n rule c.args.was.now c.args.is.now ≡ [] =
    ap (λ xs. changes_of n rule xs c.args.is.now) (c.are_equal.ensures c.if-are_equal.true) ∙ ap (with_rule n) (reports_once rule c.args.is.now) in
    sym (ap (λ l. c.args.changes.now.items ++ l) none ∙ append-nil c.args.changes.now.items)
