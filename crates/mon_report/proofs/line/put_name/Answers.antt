use Rattle.std.proofs.Common.{◌++◌, ◌∙◌, ◌-◌, ap, length, take, drop, decimal}
use Rattle.std.specs.List.{flat_map}
use Rattle.mon_oid.specs.Oid.{dotted}
use Rattle.mon_report.specs.Report.{dot_text}
use Rattle.mon_report.proofs.Written.{text-then, text-as}
use Rattle.mon_report.proofs.Loops.{dotted-split}
use Rattle.mon_report.proofs.line.put_name.Goals as goal

pub returns : goal.returns
returns g c =
    let parts = c.parts.result.now in
    text-as _ _ _ _ _ _
    (ap (λ n. decimal n ++ flat_map dot_text (take (length parts - 1) (drop 1 parts))) c.from.ensures ∙ dotted-split parts c.in-len1-up.len_at_least ∙ ap dotted c.parts.ensures.parts)
    (text-then _ _ _ _ _ _ _ _ c.put_number-ok.ensures c.put_others.ensures)
