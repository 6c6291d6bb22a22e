use Rattle.std.proofs.Common.{◌∙◌, drop, length, sym}
use Rattle.std.specs.Prelude.{nat_eq}
use Rattle.std.specs.List.{starts_with}
use Rattle.std.specs.Cmp.{unsigned_Decides}
use Rattle.std.proofs.lemmas.Slice.Eq.{starts_is}
use Rattle.mon_mib.specs.Objects.{prefix_of}
use Rattle.mon_mib.proofs.mib.is_under.Goals as goal

pub returns : goal.returns
returns c = λ yes.
    let own = prefix_of c.args.object in
    let facts = starts_is unsigned_Decides c.args.name.now own c.starts_with.result
    (c.starts_with.ensures.value ∙ (λ i. starts_with nat_eq c.args.name.now (c.prefix.ensures i))) in
    (drop (length own) c.args.name.now, sym (facts.0 yes))
