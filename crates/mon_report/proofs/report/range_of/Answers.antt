use Rattle.std.proofs.Common.{arith}
use Rattle.mon_report.proofs.Ranges.{ordered}
use Rattle.mon_report.proofs.report.range_of.Goals as goal

pub returns-clause-ordered : goal.returns-clause-ordered
returns-clause-ordered c =
    ordered c.args.rules.now c.from-number.result _ _ c.first_rule.ensures.bound c.first_rule.ensures.before
    (λ k d low high. let past = c.first_rule-2.ensures.after k d low high in omega (arith, past))

pub returns-clause-before : goal.returns-clause-before
returns-clause-before c k d low high = let before = c.first_rule.ensures.before k d low high in omega (arith, before, c.from-number.ensures)

pub returns-clause-after : goal.returns-clause-after
returns-clause-after c k d low high = let past = c.first_rule-2.ensures.after k d low high in omega (arith, past, c.from-number.ensures)
