use Rattle.std.proofs.Common.{Bor, List, ℕ, subst, sym}
use Rattle.std.specs.Prelude.{Option, option_copied}
use Rattle.mon_host.specs.Log.{GoesOnBy}
use Rattle.mon_settings_commands.specs.Source.{source_in}
use Rattle.mon_settings_commands.specs.Updated.{AreRelabelledFor}
use Rattle.mon_settings_commands.proofs.updating.write_relabelled.Goals as goal

pub returns-in-Some : goal.returns-in-Some
returns-in-Some g c = subst (λ (p : Option (Bor (List ℕ))). GoesOnBy (λ log. AreRelabelledFor (source_in c.args.input.now) c.args.old.existing.now c.args.known.now c.args.old.labels.now (option_copied p) log c.write_relabelled_file.result)
    (g.H.Host.log c.args.host.now) (g.H.Host.log c.write_relabelled_file.new.host)) (sym c.in-Some.is) c.write_relabelled_file.ensures
