use Rattle.std.proofs.Common.{Bor, List, ℕ, subst, sym}
use Rattle.std.specs.Prelude.{Option, option_map}
use Rattle.mon_console.specs.Labelled.{AreLabels}
use Rattle.mon_host.specs.Log.{GoesOnBy}
use Rattle.mon_console.proofs.labels.labels_in.Goals as goal

pub returns-in-Some : goal.returns-in-Some
returns-in-Some g c = subst (λ (o : Option (Bor (List ℕ))). GoesOnBy (λ log. AreLabels (option_map (λ p. p.now) o) log c.read_labels_file.result)
    (g.H.Host.log c.args.host.now) (g.H.Host.log c.read_labels_file.new.host)) (sym c.in-Some.is) c.read_labels_file.ensures
