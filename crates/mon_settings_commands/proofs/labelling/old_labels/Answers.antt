use Rattle.std.proofs.Common.{Bor, List, ℕ, subst, sym}
use Rattle.std.specs.Prelude.{Option, option_copied}
use Rattle.mon_host.specs.Log.{GoesOnBy}
use Rattle.mon_settings_commands.specs.Appended.{AreOldLabels}
use Rattle.mon_settings_commands.proofs.labelling.old_labels.Goals as goal

pub returns-in-Some : goal.returns-in-Some
returns-in-Some g c = subst (λ (p : Option (Bor (List ℕ))). GoesOnBy (λ log. AreOldLabels (option_copied p) log c.read_text.result) (g.H.Host.log c.args.host.now)
    (g.H.Host.log c.read_text.new.host)) (sym c.in-Some.is) c.read_text.ensures
