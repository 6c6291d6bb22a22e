use Rattle.std.proofs.Common.{◌∷◌, []}
use Rattle.std.specs.Prelude.{slice_index}
use Rattle.hex.specs.Hex.{encode_with, lower_digits}
use Rattle.mon_report.proofs.Written.{text-as}
use Rattle.mon_report.proofs.line.put_octet.Goals as goal

pub returns : goal.returns
unfolding encode_with
returns g c =
    text-as _ _ _ _ _ _ (λ i. slice_index lower_digits (c.from.ensures i) ∷ slice_index lower_digits (c.from-2.ensures i) ∷ []) c.put.ensures
