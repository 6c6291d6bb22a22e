use Rattle.std.proofs.Common.{◌+◌, ◌≤◌, length, ap, sym, subst, arith}
use Rattle.toml.specs.View.{items_view}
use Rattle.mon_survey.proofs.Steps.{counted}
use Rattle.mon_survey.proofs.labelled.require_room.Goals as goal

pub returns-then-count-gt-MAX_INTERFACES-clause-fault : goal.returns-then-count-gt-MAX_INTERFACES-clause-fault
returns-then-count-gt-MAX_INTERFACES-clause-fault c =
    (items_view c.args.before.now, c.requires, ap (λ n. n + length c.args.indexes.now) (sym (counted c.args.before.now)), omega (arith, c.if-count-gt-MAX_INTERFACES.true))

pub returns-clause-few : goal.returns-clause-few
returns-clause-few c =
    subst (λ n. n + length c.args.indexes.now ≤ 4096) (sym (counted c.args.before.now)) (omega (arith, c.if-count-gt-MAX_INTERFACES.false))
