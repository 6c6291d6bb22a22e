use Rattle.std.proofs.Common.{◌≡◌, ◌+◌, drop}
use Rattle.toml.specs.View.{items_view}
use Rattle.mon_settings.specs.Lists.{rows}
use Rattle.mon_settings.proofs.Rows.{after}
use Rattle.mon_settings.proofs.list.read_rows.Given as goal

abbrev pub invariant-loop-index : goal.invariant-loop-index
invariant-loop-index g l =
    rows l.key (g.R.Row.row_of l.around) 1 (items_view l.values)
    ≡ after l.read.items (rows l.key (g.R.Row.row_of l.around) (l.index + 1) (items_view (drop l.index l.values)))
