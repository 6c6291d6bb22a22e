use Rattle.std.proofs.Common.{◌∙◌, ◌∷◌, [], List, ap, codes, decimal}
use Rattle.std.specs.Prelude.{Some}
use Rattle.mon_host.proofs.Promised.{weaker}
use Rattle.mon_host.specs.AtHost.{IsNoted, Noted}
use Rattle.mon_host.specs.declared.level.Level.TheVariants as level
use Rattle.mon_settings_commands.specs.Notes.{IsRoundNoted}
use Rattle.mon_settings_commands.proofs.Lines.{of_9}
use Rattle.mon_settings_commands.proofs.noting.note_round.Goals as goal

pub returns : goal.returns
returns g c =
    let longest = c.args.longest in
    let pieces = of_9 (codes "snmpmon: a round of ") c.args.settings.now (codes " takes at most ") (decimal longest.most) (codes " ms (wait_ms = ") (decimal longest.wait_ms)
    (codes ", tries = ") (decimal longest.tries) (codes ")\n") in
    weaker (IsNoted level.Info (Some _)) (IsRoundNoted c.args.settings.now longest) (g.H.Host.log c.args.host.now) (g.H.Host.log c.note.new.self)
    (λ log noted. noted.2 ∙ ap (λ (text : List _). Noted level.Info text ∷ []) (noted.1 ∙ pieces)) c.note.ensures
