use Rattle.std.proofs.Common.{refl}
use Rattle.mon_report.specs.Report.{entry_line, report_of}
use Rattle.mon_formats.specs.Named.{named_line, named_report}
use Rattle.mon_formats.proofs.laws.names_in_numbers.Goals as goal

pub returns : goal.returns
unfolding entry_line report_of named_line named_report
returns c entries = refl
