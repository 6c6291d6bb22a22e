use Rattle.std.proofs.Common.{◌≡◌, ◌≤◌, ◌*◌, take}
use Rattle.mon_report.specs.Report.{samples_in}
use Rattle.mon_table.proofs.report.count_samples.Given as goal

-- those of the entries so far are counted: of each as many as memory can number
abbrev pub invariant-loop-entry : goal.invariant-loop-entry
invariant-loop-entry l = record {
  counted : l.count ≡ samples_in (take l.entry-index l.entries);
  few : l.count ≤ 18446744073709551615 * l.entry-index;
}
