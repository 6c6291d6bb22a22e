use Rattle.std.proofs.Common.{◌++◌, ◌∙◌, codes, decimal, length}
use Rattle.mon_report.specs.Report.{totals_text, stamps_text, value_text}
use Rattle.mon_report.proofs.Written.{text-then, text-as}
use Rattle.mon_report.proofs.Ends.{range-is}
use Rattle.mon_report.proofs.line.put_window.Goals as goal

pub returns : goal.returns
returns g c =
    let xs = c.args.samples.now in
    let first = c.oldest-item.result in
    let last = c.index-samples-others.result in
    text-as _ _ _ _ _ _
    ((λ i. (((((codes " n=" ++ decimal (length xs)) ++ codes " ") ++ stamps_text first last) ++ codes " ") ++ value_text last) ++ totals_text (c.requires.totals i))
    ∙ range-is xs first last c.in-len1-up.len_at_least c.oldest-item.is c.index-samples-others.is)
    (text-then _ _ _ _ _ _ _ _
    (text-then _ _ _ _ _ _ _ _
    (text-then _ _ _ _ _ _ _ _
    (text-then _ _ _ _ _ _ _ _
    (text-then _ _ _ _ _ _ _ _ (text-then _ _ _ _ _ _ _ _ c.put-ok.ensures c.put_number-ok.ensures) c.put-ok-2.ensures)
    c.put_stamps-ok.ensures)
    c.put-ok-3.ensures)
    c.put_value-ok.ensures)
    c.put_totals.ensures)
