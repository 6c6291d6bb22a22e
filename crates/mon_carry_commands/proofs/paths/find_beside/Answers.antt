use Rattle.std.proofs.Common.{◌≡◌, ◌++◌, true, string_bytes}
use Rattle.std.specs.Global.{Global}
use Rattle.std.specs.Prelude.{String, codes}
use Rattle.mon_file_commands.specs.Steps.{OrMemory}
use Rattle.mon_host.specs.Then.{Then}
use Rattle.mon_carry_commands.specs.Paths.{IsFinding, IsStandingIf}
use Rattle.mon_carry_commands.proofs.Steps.{follows, found_as, silent_stopped, silent_then}
use Rattle.mon_carry_commands.proofs.paths.find_beside.Goals as goal

pub returns-in_err-previous : goal.returns-in_err-previous
returns-in_err-previous g c =
    silent_stopped (OrMemory (λ (text : String Global). string_bytes text ≡ c.args.path.now ++ codes ".previous"))
    (λ previous. Then (IsFinding (string_bytes previous)) (λ there. IsStandingIf there c.args.path.now))
    c.in_err-previous.field-0.0 c.from_residual.result (g.H.Host.log c.args.host.now) c.from_residual.ensures.1 c.in_err-previous.ensures

pub returns-in-Ok-true : goal.returns-in-Ok-true
returns-in-Ok-true g c =
    let start = g.H.Host.log c.args.host.now in
    let mid = g.H.Host.log c.is_there.new.host in
    let end = g.H.Host.log c.find_new.new.host in
    silent_then (OrMemory (λ (text : String Global). string_bytes text ≡ c.args.path.now ++ codes ".previous"))
    (λ previous. Then (IsFinding (string_bytes previous)) (λ there. IsStandingIf there c.args.path.now)) c.in_ok-previous.previous c.find_new.result start end c.in_ok-previous.ensures
    (follows (IsFinding (string_bytes c.in_ok-previous.previous)) (λ there. IsStandingIf there c.args.path.now) true c.find_new.result start mid end
    (found_as c.as_str.result.now (string_bytes c.in_ok-previous.previous) c.in-Ok-true.field-0 true start mid c.as_str.ensures.value c.in-Ok-true.field-0-test c.in-Ok-true.ensures) c.find_new.ensures)
