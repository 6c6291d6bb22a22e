use Rattle.mon_carry_commands.specs.Paths.{IsSwap}
use Rattle.mon_carry_commands.specs.Previous.{IsWritingNew}
use Rattle.mon_carry_commands.proofs.Steps.{follows}
use Rattle.mon_carry_commands.proofs.previous.replace_by.Goals as goal

pub returns : goal.returns
returns g c =
    let saved = g.K.Saves.asked_save c.args.means.now.disks.now in
    follows (IsWritingNew saved c.args.new.now c.args.load.now) (λ done. IsSwap c.args.path.now c.args.new.now) c.in_ok-write_new.field-0 c.swap.result
    (g.H.Host.log c.args.host.now) (g.H.Host.log c.write_new.new.host) (g.H.Host.log c.swap.new.host) c.in_ok-write_new.ensures c.swap.ensures
