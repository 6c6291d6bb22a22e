use Rattle.std.proofs.Common.{true, false, refl}
use Rattle.mon_carry_commands.specs.Paths.{IsFinding}
use Rattle.mon_carry_commands.specs.Previous.{IsPreviousIf}
use Rattle.mon_carry_commands.proofs.Steps.{follows, found_as}
use Rattle.mon_carry_commands.proofs.previous.carry_previous.Goals as goal

pub returns-in-Ok-true : goal.returns-in-Ok-true
returns-in-Ok-true g c =
    let saved = g.K.Saves.asked_save c.args.means.now.disks.now in
    let w = c.args.words in
    let start = g.H.Host.log c.args.host.now in
    let mid = g.H.Host.log c.is_there.new.host in
    follows (IsFinding w.old.now) (λ there. IsPreviousIf saved there w c.args.dropped.now) true c.carry_settings.result start mid (g.H.Host.log c.carry_settings.new.host)
    (found_as w.old.now w.old.now c.in-Ok-true.field-0 true start mid refl c.in-Ok-true.field-0-test c.in-Ok-true.ensures) c.carry_settings.ensures

pub returns-in-Ok-false : goal.returns-in-Ok-false
returns-in-Ok-false g c =
    let saved = g.K.Saves.asked_save c.args.means.now.disks.now in
    let w = c.args.words in
    let start = g.H.Host.log c.args.host.now in
    let mid = g.H.Host.log c.is_there.new.host in
    follows (IsFinding w.old.now) (λ there. IsPreviousIf saved there w c.args.dropped.now) false c.print_absent.result start mid (g.H.Host.log c.print_absent.new.host)
    (found_as w.old.now w.old.now c.in-Ok-false.field-0 false start mid refl c.in-Ok-false.field-0-test c.in-Ok-false.ensures) c.print_absent.ensures
