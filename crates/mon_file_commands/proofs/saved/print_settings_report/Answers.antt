use Rattle.std.proofs.Common.{option_map}
use Rattle.std.specs.Prelude.{Ok}
use Rattle.mon_console.specs.Labelled.{IsLabelled}
use Rattle.mon_console.specs.declared.printing.Printing.{Printing}
use Rattle.mon_host.proofs.Promised.{then_follows}
use Rattle.mon_settings.specs.declared.station.StationSettings.{StationSettings}
use Rattle.mon_file_commands.specs.Saved.{IsSavedReport}
use Rattle.mon_file_commands.proofs.saved.print_settings_report.Goals as goal

pub returns : goal.returns
returns g c =
    then_follows (IsLabelled c.args.path.now (option_map (λ l. l.now) c.args.labels) c.args.printed)
    (λ (both : StationSettings × Printing). IsSavedReport both.0 both.1) (Ok (c.in_ok-settings.settings, c.in_ok-settings.printing)) c.print_saved.result
    (g.H.Host.log c.args.host.now) (g.H.Host.log c.read_labelled_station.new.host) (g.H.Host.log c.print_saved.new.host) c.in_ok-settings.ensures c.print_saved.ensures
