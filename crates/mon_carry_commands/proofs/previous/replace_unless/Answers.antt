use Rattle.std.proofs.Common.{Bool, sym, subst}
use Rattle.mon_host.specs.Log.{GoesOnBy}
use Rattle.mon_carry_commands.specs.Previous.{IsReplacingUnless}
use Rattle.mon_carry_commands.proofs.previous.replace_unless.Goals as goal

pub returns-else-skips : goal.returns-else-skips
returns-else-skips g c =
    let saved = g.K.Saves.asked_save c.args.means.now.disks.now in
    subst (λ (b : Bool). GoesOnBy (λ log. IsReplacingUnless saved b c.args.path.now c.args.load.now log c.replace.result) (g.H.Host.log c.args.host.now) (g.H.Host.log c.replace.new.host))
    (sym c.if-skips.false) c.replace.ensures
