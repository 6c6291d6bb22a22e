use Rattle.std.proofs.Common.{append_assoc}
use Rattle.mon_report.specs.Report.{end_line}
use Rattle.mon_formats.proofs.named.end_line.Goals as goal

pub returns : goal.returns
unfolding end_line
returns c = simp append_assoc (rw c.new-text.ensures.bytes at c.in_ok-writeln.ensures.bytes)
