use Rattle.std.proofs.Common.{List, ℕ, codes, subst}
use Rattle.mon_host.specs.Log.{GoesOnBy}
use Rattle.mon_settings_commands.specs.Notes.{IsPrintNoted}
use Rattle.mon_settings_commands.proofs.settings.print_drafted.Goals as goal

pub returns : goal.returns
returns g c = subst (λ (o : List ℕ). GoesOnBy (λ log. IsPrintNoted o (codes "these settings") c.args.drafted.now.longest log c.print_noted.result)
    (g.H.Host.log c.args.host.now) (g.H.Host.log c.print_noted.new.host)) c.as_bytes-text.ensures.value c.print_noted.ensures
