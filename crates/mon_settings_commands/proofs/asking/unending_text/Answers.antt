use Rattle.std.proofs.Common.{List, ℕ, ◌++◌, ◌∙◌, ap}
use Rattle.std.specs.Prelude.{codes, decimal}
use Rattle.mon_oid.specs.Oid.{dotted}
use Rattle.mon_settings_commands.specs.Walked.{unending_line}
use Rattle.mon_settings_commands.proofs.Lines.{of_6, reads_as}
use Rattle.mon_settings_commands.proofs.asking.unending_text.Goals as goal

pub returns : goal.returns
returns c =
    let agent = c.args.agent.now in
    reads_as c.format.result _ (unending_line agent c.args.column.now) c.format.ensures.ok
    (ap (λ (n : List ℕ). agent ++ (codes ": no end of " ++ (n ++ (codes " after " ++ (decimal 65536 ++ codes " variables"))))) c.in_ok-name.ensures
    ∙ of_6 agent (codes ": no end of ") (dotted c.args.column.now) (codes " after ") (decimal 65536) (codes " variables"))
