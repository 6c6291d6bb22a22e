use Rattle.std.proofs.Common.{◌≡◌, List, ℕ, string_bytes}
use Rattle.mon_console.specs.Files.{IsPrint}
use Rattle.mon_station_commands.specs.Limits.{limits_text}
use Rattle.mon_file_commands.proofs.Promised.{no_memory, printed}
use Rattle.mon_station_commands.proofs.limits.print_limits.Goals as goal

pub returns-in_err-text : goal.returns-in_err-text
returns-in_err-text g c =
    no_memory (λ (text : List ℕ). text ≡ limits_text c.args.settings.now c.args.interval) IsPrint c.from_residual.result (g.H.Host.log c.args.host.now) c.from_residual.ensures.1

pub returns : goal.returns
returns g c =
    printed (λ (text : List ℕ). text ≡ limits_text c.args.settings.now c.args.interval) (string_bytes c.in_ok-text.text) c.as_bytes.result.now c.print.result
    (g.H.Host.log c.args.host.now) (g.H.Host.log c.print.new.host) c.in_ok-text.ensures c.as_bytes.ensures.value c.print.ensures
