use Rattle.std.proofs.Common.{Bor, List, ℕ, subst, sym}
use Rattle.std.specs.Prelude.{Option, option_copied}
use Rattle.mon_host.specs.Log.{GoesOnBy}
use Rattle.mon_settings_commands.specs.Settings.{AreLabelsFor}
use Rattle.mon_settings_commands.specs.Source.{source_in}
use Rattle.mon_settings_commands.proofs.labelling.write_labels.Goals as goal

pub returns-in-Some : goal.returns-in-Some
returns-in-Some g c = subst (λ (p : Option (Bor (List ℕ))). GoesOnBy (λ log. AreLabelsFor (source_in c.args.input.now) c.args.old.now (option_copied p) log c.write_labels_file.result)
    (g.H.Host.log c.args.host.now) (g.H.Host.log c.write_labels_file.new.host)) (sym c.in-Some.is) c.write_labels_file.ensures
