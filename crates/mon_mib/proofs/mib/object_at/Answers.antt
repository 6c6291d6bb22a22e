use Rattle.std.proofs.Common.{◌<◌, length, ap, arith}
use Rattle.std.specs.Cmp.{unsigned_Decides}
use Rattle.std.proofs.lemmas.Slice.Eq.{strip_prefix_is}
use Rattle.mon_mib.specs.Objects.{objects}
use Rattle.mon_mib.proofs.Finding.{found_at}
use Rattle.mon_mib.proofs.mib.object_at.Goals as goal

pub returns : goal.returns
returns c =
    let within : c.args.place < length objects = omega (arith, c.if-place-objects.false, ap length c.all_objects-objects.ensures) in
    found_at c.all_objects-objects.result.now c.args.place _ c.prefix.result.now c.args.name.now c.strip_prefix.result c.in-Some.rest
    c.all_objects-objects.ensures within c.prefix.ensures (strip_prefix_is unsigned_Decides c.args.name.now c.prefix.result.now c.strip_prefix.result c.strip_prefix.ensures.cases) c.in-Some.is
