use Rattle.std.proofs.Common.{◌≡◌, ◌++◌, string_bytes}
use Rattle.std.specs.Global.{Global}
use Rattle.std.specs.Prelude.{String, codes}
use Rattle.mon_console.specs.Files.{IsRename}
use Rattle.mon_file_commands.specs.Steps.{OrMemory}
use Rattle.mon_carry_commands.proofs.Steps.{silent_stopped}
use Rattle.mon_carry_commands.proofs.paths.finish.Goals as goal

pub returns-in_err-new : goal.returns-in_err-new
returns-in_err-new g c =
    silent_stopped (OrMemory (λ (text : String Global). string_bytes text ≡ c.args.path.now ++ codes ".new")) (λ new. IsRename (string_bytes new) c.args.path.now)
    c.in_err-new.field-0.0 c.from_residual.result (g.H.Host.log c.args.host.now) c.from_residual.ensures.1 c.in_err-new.ensures
