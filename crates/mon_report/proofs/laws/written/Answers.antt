use Rattle.mon_report.proofs.Written.{text-none, text-then}
use Rattle.mon_report.proofs.laws.written.Goals as goal

pub returns : goal.returns
returns c = record { none = text-none; more = text-then }
