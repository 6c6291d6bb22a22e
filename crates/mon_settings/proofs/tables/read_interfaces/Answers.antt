use Rattle.std.proofs.Common.{◌≡◌, true}
use Rattle.toml.specs.View.{table_view}
use Rattle.mon_settings.specs.Interfaces.{rise_from}
use Rattle.mon_settings.proofs.Accepted.{listed_indexes}
use Rattle.mon_settings.proofs.tables.read_interfaces.Goals as goal

pub returns-then-rise-clause-indexes : goal.returns-then-rise-clause-indexes
returns-then-rise-clause-indexes c =
    let rises = c.rise.ensures in
    let same = c.deref.ensures.value in
    let passed = c.if-rise.true in
    let up : rise_from 0 c.in-Ok.value.items ≡ true = cc in
    listed_indexes (table_view c.args.reader.now.table.now) c.in-Ok.value.items c.in-Ok.ensures up
