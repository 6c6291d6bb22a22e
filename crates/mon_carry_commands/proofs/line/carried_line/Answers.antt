use Rattle.std.proofs.Common.{List, ℕ, ◌≡◌, ◌∙◌, string_bytes, subst}
use Rattle.std.specs.Global.{Global}
use Rattle.std.specs.Prelude.{String}
use Rattle.mon_file_commands.specs.Steps.{OrMemory}
use Rattle.mon_carry_commands.specs.Line.{carried_with}
use Rattle.mon_carry_commands.proofs.line.carried_line.Goals as goal

pub returns : goal.returns
returns c =
    subst (λ (samples : List ℕ). OrMemory (λ (line : String Global). string_bytes line ≡ carried_with samples c.args.carried) c.carried_with.result)
    (c.as_str.ensures.value ∙ c.in_ok-samples.ensures) c.carried_with.ensures
