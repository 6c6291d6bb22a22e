use Rattle.std.proofs.Common.{◌≡◌, ◌++◌, string_bytes}
use Rattle.std.specs.Global.{Global}
use Rattle.std.specs.Prelude.{String, codes}
use Rattle.mon_file_commands.specs.Steps.{OrMemory}
use Rattle.mon_carry_commands.specs.Paths.{IsSwapTo}
use Rattle.mon_carry_commands.proofs.Steps.{silent_stopped}
use Rattle.mon_carry_commands.proofs.paths.swap.Goals as goal

pub returns-in_err-previous : goal.returns-in_err-previous
returns-in_err-previous g c =
    silent_stopped (OrMemory (λ (text : String Global). string_bytes text ≡ c.args.path.now ++ codes ".previous")) (λ previous. IsSwapTo c.args.path.now c.args.new.now (string_bytes previous))
    c.in_err-previous.field-0.0 c.from_residual.result (g.H.Host.log c.args.host.now) c.from_residual.ensures.1 c.in_err-previous.ensures
