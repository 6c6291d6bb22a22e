use Rattle.std.proofs.Common.{◌≡◌, ap, ◌∙◌, length, arith}
use Rattle.std.proofs.lemmas.List.{take_all}
use Rattle.mon_report.specs.Report.{samples_in}
use Rattle.mon_table.proofs.Entries.{samples-more}
use Rattle.mon_table.proofs.report.count_samples.Goals as goal

pub loop-entry-preserved : goal.loop-entry-preserved
loop-entry-preserved c =
    let item = c.entry-item.result in
    let held : length c.samples.result.now ≡ length item.items = ap length c.samples.ensures in
    let more = samples-more c.args.entries.now c.loop-entry.entry-index item c.loop-entry-test.true in
    let there = ap (λ e. length e.items) c.entry-item.is in
    record {
      counted = omega (arith, c.loop-entry.invariant.counted, more, held, there);
      few = omega (arith, c.loop-entry.invariant.few, c.samples.type_inv.0);
    }

pub returns : goal.returns
returns c = c.loop-entry.invariant.counted ∙ ap samples_in (take_all c.loop-entry.entry-index c.args.entries.now c.loop-entry-test.false)

pub overflow_add-count : goal.overflow_add-count
overflow_add-count c = record { fits = omega (arith, c.loop-entry.invariant.few, c.samples.type_inv.0, c.loop-entry-test.true) }
