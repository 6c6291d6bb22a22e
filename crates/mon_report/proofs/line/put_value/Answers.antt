use Rattle.std.proofs.Common.{◌++◌, ◌∙◌, ap, codes}
use Rattle.std.specs.Fmt.{signed_decimal}
use Rattle.std.specs.Int.{w128}
use Rattle.std.proofs.lemmas.Int.{to_z-of_z}
use Rattle.mon_sample.specs.Kind.{kind_name}
use Rattle.mon_report.proofs.Written.{text-then, text-as}
use Rattle.mon_report.proofs.line.put_value.Goals as goal

pub returns : goal.returns
returns g c =
    let kind = c.as_bytes.ensures.value ∙ c.name.ensures ∙ ap kind_name c.kind.ensures in
    let number = to_z-of_z w128 c.number.result (record { sfits = c.number.type_inv }) ∙ c.number.ensures in
    text-as _ _ _ _ _ _ (λ i. (kind i ++ codes "=") ++ signed_decimal (number i))
    (text-then _ _ _ _ _ _ _ _ (text-then _ _ _ _ _ _ _ _ c.put-ok.ensures c.put-ok-2.ensures) c.put_signed.ensures)
