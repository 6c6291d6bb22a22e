use Rattle.std.proofs.Common.{◌∙◌}
use Rattle.mon_file_commands.specs.Report.{entries_by}
use Rattle.mon_station_commands.proofs.Steps.{report_is}
use Rattle.mon_station_commands.proofs.printing.report_text.Goals as goal

pub returns : goal.returns
returns g c =
    report_is _ _ _ _ c.as_slice-2.result.now c.in_ok-figures.figures c.text.result c.in_ok-figures.ensures.figures
    (c.as_slice-2.ensures.value ∙ c.in_ok-entries.ensures ∙ (λ i. entries_by (c.board.ensures i) ((c.as_slice.ensures.value ∙ c.in_ok-states.ensures) i)))
    c.text.ensures
