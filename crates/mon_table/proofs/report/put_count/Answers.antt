use Rattle.std.proofs.Common.{append_assoc}
use Rattle.mon_table.specs.Table.{count_line}
use Rattle.mon_table.proofs.report.put_count.Goals as goal

pub returns : goal.returns
unfolding count_line
returns c = simp append_assoc c.writeln.ensures.bytes
