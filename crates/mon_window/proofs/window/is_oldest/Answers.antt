use Rattle.std.proofs.Common.{rules, ◌≡◌}
use Rattle.std.specs.Cmp.{nat_cmp_total}
use Rattle.std.specs.FinSet.{nat_cmp-IsAntisymmetric}
use Rattle.std.specs.Ordering.{nat_cmp}
use Rattle.std.specs.declared.cmp.Ordering.TheVariants.{Greater}
use Rattle.mon_window.proofs.Placing.{above_oldest}
use Rattle.mon_window.proofs.window.is_oldest.Goals as goal

pub returns : goal.returns
returns c older =
    let first = c.index-items-0 in
    let more : nat_cmp first.result c.args.sample.now ≡ Greater = search rules in
    above_oldest nat_cmp_total nat_cmp-IsAntisymmetric c.args.sample.now first.result c.args.items.now c.requires first.is more
