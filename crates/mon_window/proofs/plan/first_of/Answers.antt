use Rattle.std.proofs.Common.{rules}
use Rattle.std.specs.Prelude.{nat_lt}
use Rattle.std.proofs.lemmas.Bool.{ltb-true, ltb-false}
use Rattle.std.proofs.lemmas.List.Sorted.{IsPartitionPoint-from_clause, IsPartitionedBy-ltb}
use Rattle.mon_sample.specs.Key.{boots_of}
use Rattle.mon_window.proofs.ByBoots.{boots-rise, boots_rise}
use Rattle.mon_window.proofs.plan.first_of.Goals as goal

pub returns-clause-before : goal.returns-clause-before
returns-clause-before c =
    let parted = IsPartitionedBy-ltb boots_of c.args.items.now c.args.boots (boots-rise boots_of boots_rise c.args.items.now c.requires) in
    let point = IsPartitionPoint-from_clause (λ s. nat_lt (boots_of s) c.args.boots) c.args.items.now c.partition_point.result c.partition_point.ensures.partitioned parted (λ a r f called. search rules) in
    λ k d low high. ltb-true _ _ (point.0 k d low high)

pub returns-clause-after : goal.returns-clause-after
returns-clause-after c =
    let parted = IsPartitionedBy-ltb boots_of c.args.items.now c.args.boots (boots-rise boots_of boots_rise c.args.items.now c.requires) in
    let point = IsPartitionPoint-from_clause (λ s. nat_lt (boots_of s) c.args.boots) c.args.items.now c.partition_point.result c.partition_point.ensures.partitioned parted (λ a r f called. search rules) in
    λ k d low high. ltb-false _ _ (point.1 k d low high)
