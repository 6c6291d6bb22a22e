use Rattle.std.specs.Prelude.{Ok}
use Rattle.mon_host.proofs.Promised.{then_follows}
use Rattle.mon_settings_commands.specs.Settings.{AreLabels, IsDraftPrinted}
use Rattle.mon_settings_commands.specs.Source.{source_in}
use Rattle.mon_settings_commands.proofs.settings.put_longer.Goals as goal

pub returns : goal.returns
returns g c =
    let s = source_in c.args.input.now in
    then_follows (AreLabels s c.args.old.now) (λ done. IsDraftPrinted c.args.drafted.now) (Ok c.in_ok-write_labels.field-0) c.print_drafted.result (g.H.Host.log c.args.host.now)
    (g.H.Host.log c.write_labels.new.host) (g.H.Host.log c.print_drafted.new.host) c.in_ok-write_labels.ensures c.print_drafted.ensures
