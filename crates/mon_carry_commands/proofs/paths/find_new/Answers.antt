use Rattle.std.proofs.Common.{◌≡◌, ◌++◌, string_bytes}
use Rattle.std.specs.Global.{Global}
use Rattle.std.specs.Prelude.{String, codes, Ok}
use Rattle.mon_file_commands.specs.Steps.{OrMemory}
use Rattle.mon_host.specs.Then.{Quietly, Then}
use Rattle.mon_carry_commands.specs.Paths.{IsFinding, beside}
use Rattle.mon_carry_commands.proofs.Steps.{silent_stopped}
use Rattle.mon_carry_commands.proofs.paths.find_new.Goals as goal

pub returns-in_err-new : goal.returns-in_err-new
returns-in_err-new g c =
    silent_stopped (OrMemory (λ (text : String Global). string_bytes text ≡ c.args.path.now ++ codes ".new")) (λ new. Then (IsFinding (string_bytes new)) (λ there. Quietly (λ result. result ≡ Ok (beside there))))
    c.in_err-new.field-0.0 c.from_residual.result (g.H.Host.log c.args.host.now) c.from_residual.ensures.1 c.in_err-new.ensures
