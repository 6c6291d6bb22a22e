use Rattle.std.proofs.Common.{◌++◌, ◌∙◌, codes}
use Rattle.std.specs.Fmt.{signed_decimal}
use Rattle.std.specs.Int.{w64, w128}
use Rattle.std.proofs.lemmas.Int.{to_z-of_z}
use Rattle.mon_report.specs.Report.{alarm_text, state_text}
use Rattle.mon_report.proofs.Written.{text-then, text-as}
use Rattle.mon_report.proofs.line.put_alarm.Goals as goal

pub returns : goal.returns
unfolding alarm_text
returns g c =
    let rising = to_z-of_z w128 c.from.result (record { sfits = c.from.type_inv }) ∙ c.from.ensures ∙ to_z-of_z w64 c.rising.result (record { sfits = c.rising.type_inv }) ∙ c.rising.ensures.rising in
    let falling = to_z-of_z w128 c.from-2.result (record { sfits = c.from-2.type_inv }) ∙ c.from-2.ensures ∙ to_z-of_z w64 c.falling.result (record { sfits = c.falling.type_inv }) ∙ c.falling.ensures.falling in
    text-as _ _ _ _ _ _
    (λ i. ((((codes " alarm " ++ signed_decimal (rising i)) ++ codes "/") ++ signed_decimal (falling i)) ++ codes "=") ++ state_text (c.state.ensures i))
    (text-then _ _ _ _ _ _ _ _
    (text-then _ _ _ _ _ _ _ _
    (text-then _ _ _ _ _ _ _ _
    (text-then _ _ _ _ _ _ _ _ (text-then _ _ _ _ _ _ _ _ c.put-ok.ensures c.put_signed-ok.ensures) c.put-ok-2.ensures)
    c.put_signed-ok-2.ensures)
    c.put-ok-3.ensures)
    c.put_state.ensures)
