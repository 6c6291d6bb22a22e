use Rattle.std.proofs.Common.{sym, subst}
use Rattle.mon_host.specs.Log.{GoesOnBy}
use Rattle.mon_carry_commands.specs.Previous.{IsReplacedAt}
use Rattle.mon_carry_commands.specs.declared.paths.Standing.{Standing}
use Rattle.mon_carry_commands.proofs.previous.replace_at.Goals as goal

pub returns-in-Absent : goal.returns-in-Absent
returns-in-Absent g c =
    let saved = g.K.Saves.asked_save c.args.means.now.disks.now in
    let t = c.args.task in
    subst (λ (s : Standing). GoesOnBy (λ log. IsReplacedAt saved s c.args.skips t.path.now t.old.now t.new.now t.dropped.now log c.print_absent.result) (g.H.Host.log c.args.host.now) (g.H.Host.log c.print_absent.new.host))
    (sym c.in-Absent.is) c.print_absent.ensures
