-- The fault of a report.
use Rattle.std.specs.Prelude.{ℕ, List, codes}
use Rattle.mon_report.specs.declared.fault.ReportFault.{ReportFault}
use Rattle.mon_report.specs.declared.fault.ReportFault.TheVariants.{WriteFailed}

-- the number by which a printed line names a fault
abbrev pub number_of : ReportFault → ℕ
number_of WriteFailed = 2

-- the name of a fault
abbrev pub name_of : ReportFault → List ℕ
name_of WriteFailed = codes "WriteFailed"
