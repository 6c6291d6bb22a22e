use Rattle.std.proofs.Common.{rules}
use Rattle.std.proofs.lemmas.Fn.{always_returns_same}
use Rattle.mon_mib.proofs.Candidates.{is_reached, parted, within, earlier, later}
use Rattle.mon_mib.proofs.mib.candidate_place.Goals as goal

pub returns-clause-within : goal.returns-clause-within
returns-clause-within c =
    within c.args.name.now c.all_objects.result.now c.partition_point-reached.result c.saturating_sub.result c.all_objects.ensures c.partition_point-reached.ensures.bound c.saturating_sub.ensures

pub returns-clause-earlier : goal.returns-clause-earlier
returns-clause-earlier c =
    let point = c.partition_point-reached.ensures.partitioned (is_reached c.args.name.now) (always_returns_same _ _ _ (λ a r f called. search rules))
    (parted c.args.name.now c.all_objects.result.now c.all_objects.ensures) in
    earlier c.args.name.now c.all_objects.result.now c.partition_point-reached.result c.saturating_sub.result c.all_objects.ensures c.partition_point-reached.ensures.bound c.saturating_sub.ensures point

pub returns-clause-later : goal.returns-clause-later
returns-clause-later c =
    let point = c.partition_point-reached.ensures.partitioned (is_reached c.args.name.now) (always_returns_same _ _ _ (λ a r f called. search rules))
    (parted c.args.name.now c.all_objects.result.now c.all_objects.ensures) in
    later c.args.name.now c.all_objects.result.now c.partition_point-reached.result c.saturating_sub.result c.all_objects.ensures c.partition_point-reached.ensures.bound c.saturating_sub.ensures point
