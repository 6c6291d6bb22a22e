use Rattle.std.specs.Cmp.{unsigned_Decides}
use Rattle.std.proofs.lemmas.Slice.Eq.{strip_prefix_is}
use Rattle.mon_mib.proofs.Finding.{found_at, none_found}
use Rattle.mon_mib.proofs.mib.search_object.Goals as goal

pub returns-in_default-clause-none : goal.returns-in_default-clause-none
returns-in_default-clause-none c = none_found c.all_objects.result.now c.candidate_place.result _ c.prefix.result.now c.args.name.now c.strip_prefix.result
    c.all_objects.ensures c.prefix.ensures (strip_prefix_is unsigned_Decides c.args.name.now c.prefix.result.now c.strip_prefix.result c.strip_prefix.ensures.cases) c.in_default.is
    c.candidate_place.ensures.earlier c.candidate_place.ensures.later

pub returns-clause-some : goal.returns-clause-some
returns-clause-some c = found_at c.all_objects.result.now c.candidate_place.result _ c.prefix.result.now c.args.name.now c.strip_prefix.result c.in-Some.rest
    c.all_objects.ensures c.candidate_place.ensures.within c.prefix.ensures (strip_prefix_is unsigned_Decides c.args.name.now c.prefix.result.now c.strip_prefix.result c.strip_prefix.ensures.cases) c.in-Some.is
