use Rattle.std.proofs.Common.{◌++◌, ◌∷◌, ◌∙◌, []}
use Rattle.mon_host.proofs.Promised.{weaker}
use Rattle.mon_settings_commands.specs.Network.{IsPathPrinted}
use Rattle.mon_settings_commands.specs.Source.{OrMemory}
use Rattle.mon_settings_commands.proofs.Turns.{or_memory}
use Rattle.mon_settings_commands.proofs.network.print_path.Goals as goal

pub returns : goal.returns
returns g c =
    let path = c.args.path.now in
    let r = c.print_line.result in
    weaker (λ log. IsPathPrinted path c.args.longest log r) (λ log. OrMemory (IsPathPrinted path c.args.longest) log r) (g.H.Host.log c.args.host.now) (g.H.Host.log c.print_line.new.host)
    (λ log holds. or_memory (IsPathPrinted path c.args.longest) log r holds) c.print_line.ensures

pub print_line-requires : goal.print_line-requires
print_line-requires g c = c.as_bytes.ensures.value ∙ c.in_ok-line.ensures.ok
