use Rattle.mon_carry_commands.specs.Paths.{IsStanding}
use Rattle.mon_carry_commands.specs.Previous.{IsReplacedAt}
use Rattle.mon_carry_commands.specs.declared.paths.Standing.{Standing}
use Rattle.mon_carry_commands.proofs.Steps.{follows}
use Rattle.mon_carry_commands.proofs.previous.replace_standing.Goals as goal

pub returns : goal.returns
returns g c =
    let saved = g.K.Saves.asked_save c.args.means.now.disks.now in
    let t = c.args.task in
    follows (IsStanding t.path.now) (λ (at : Standing). IsReplacedAt saved at c.args.skips t.path.now t.old.now t.new.now t.dropped.now) c.in_ok-standing.standing _
    (g.H.Host.log c.args.host.now) (g.H.Host.log c.find_standing.new.host) _ c.in_ok-standing.ensures c.replace_at.ensures
