use Rattle.std.proofs.Common.{◌≡◌, string_bytes}
use Rattle.std.specs.Global.{Global}
use Rattle.std.specs.Prelude.{String}
use Rattle.mon_console.specs.Files.{IsPrint}
use Rattle.mon_file_commands.specs.Steps.{OrMemory}
use Rattle.mon_carry_commands.specs.Line.{absent_line}
use Rattle.mon_carry_commands.proofs.Steps.{silent_stopped}
use Rattle.mon_carry_commands.proofs.line.print_absent.Goals as goal

pub returns-in_err-line : goal.returns-in_err-line
returns-in_err-line g c =
    silent_stopped (OrMemory (λ (line : String Global). string_bytes line ≡ absent_line c.args.path.now)) (λ line. IsPrint (string_bytes line)) c.in_err-line.field-0.0
    c.from_residual.result (g.H.Host.log c.args.host.now) c.from_residual.ensures.1 c.in_err-line.ensures
