use Rattle.std.proofs.Common.{rules, ◌≡◌}
use Rattle.std.specs.Cmp.{nat_cmp_total}
use Rattle.std.specs.FinSet.{nat_cmp-IsAntisymmetric}
use Rattle.std.specs.Ordering.{nat_cmp}
use Rattle.std.specs.declared.cmp.Ordering.TheVariants.{Less}
use Rattle.mon_window.proofs.Placing.{below_newest}
use Rattle.mon_window.proofs.window.is_newest.Goals as goal

pub returns : goal.returns
returns c newer =
    let last = c.index-items-items in
    let less : nat_cmp last.result c.args.sample.now ≡ Less = search rules in
    below_newest nat_cmp_total nat_cmp-IsAntisymmetric c.args.sample.now last.result c.args.items.now c.requires last.is less
