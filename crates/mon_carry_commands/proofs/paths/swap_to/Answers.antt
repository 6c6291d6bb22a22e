use Rattle.mon_console.specs.Files.{IsRename}
use Rattle.mon_carry_commands.proofs.Steps.{follows}
use Rattle.mon_carry_commands.proofs.paths.swap_to.Goals as goal

pub returns : goal.returns
returns g c =
    follows (IsRename c.args.path.now c.args.previous.now) (λ done. IsRename c.args.new.now c.args.path.now) c.in_ok-rename.field-0 c.rename-2.result
    (g.H.Host.log c.args.host.now) (g.H.Host.log c.rename.new.host) (g.H.Host.log c.rename-2.new.host) c.in_ok-rename.ensures c.rename-2.ensures
