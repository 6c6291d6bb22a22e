use Rattle.std.proofs.Common.{◌++◌, ap, codes, decimal}
use Rattle.mon_report.proofs.Written.{text-then, text-as}
use Rattle.mon_report.proofs.line.put_part.Goals as goal

pub returns : goal.returns
returns g c = text-as _ _ _ _ _ _ (ap (λ n. codes "." ++ decimal n) c.from.ensures) (text-then _ _ _ _ _ _ _ _ c.put-ok.ensures c.put_number.ensures)
