use Rattle.std.proofs.Common.{rules}
use Rattle.std.specs.Prelude.{nat_lt}
use Rattle.std.proofs.lemmas.Bool.{ltb-true, ltb-false}
use Rattle.std.proofs.lemmas.List.Sorted.{IsPartitionPoint-from_clause, IsPartitionedBy-ltb}
use Rattle.mon_alarms.specs.Rule.{Rule}
use Rattle.mon_report.proofs.Ranges.{instances-rise}
use Rattle.mon_report.proofs.report.first_rule.Goals as goal

pub returns-clause-before : goal.returns-clause-before
returns-clause-before c =
    let parted = IsPartitionedBy-ltb (λ (r : Rule). r.instance) c.args.rules.now c.args.number (instances-rise c.args.rules.now c.requires) in
    let point = IsPartitionPoint-from_clause (λ (r : Rule). nat_lt r.instance c.args.number) c.args.rules.now c.partition_point.result c.partition_point.ensures.partitioned parted (λ a r f called. search rules) in
    λ k d low high. ltb-true _ _ (point.0 k d low high)

pub returns-clause-after : goal.returns-clause-after
returns-clause-after c =
    let parted = IsPartitionedBy-ltb (λ (r : Rule). r.instance) c.args.rules.now c.args.number (instances-rise c.args.rules.now c.requires) in
    let point = IsPartitionPoint-from_clause (λ (r : Rule). nat_lt r.instance c.args.number) c.args.rules.now c.partition_point.result c.partition_point.ensures.partitioned parted (λ a r f called. search rules) in
    λ k d low high. ltb-false _ _ (point.1 k d low high)
