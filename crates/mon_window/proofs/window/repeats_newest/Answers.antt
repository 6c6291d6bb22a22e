use Rattle.std.proofs.Common.{rules, ◌≡◌}
use Rattle.std.specs.Cmp.{nat_cmp_total}
use Rattle.std.specs.FinSet.{nat_cmp-IsAntisymmetric}
use Rattle.std.specs.Ordering.{nat_cmp}
use Rattle.std.specs.declared.cmp.Ordering.TheVariants.{Equal}
use Rattle.mon_window.proofs.Placing.{newest_found}
use Rattle.mon_window.proofs.window.repeats_newest.Goals as goal

pub returns-clause-known : goal.returns-clause-known
returns-clause-known c again =
    let last = c.index-items-items in
    let equal : nat_cmp last.result c.args.sample.now ≡ Equal = search rules in
    newest_found nat_cmp_total nat_cmp-IsAntisymmetric c.args.sample.now last.result c.args.items.now (search rules) last.is equal
