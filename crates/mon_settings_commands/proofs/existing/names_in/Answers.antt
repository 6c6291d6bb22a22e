use Rattle.std.proofs.Common.{List, map, string_bytes, subst}
use Rattle.std.specs.Global.{Global}
use Rattle.std.specs.Prelude.{Ok, String}
use Rattle.mon_console.specs.Naming.{AreNames}
use Rattle.mon_console.specs.Settings.{AreModuleFiles}
use Rattle.mon_host.specs.Log.{GoesOnBy}
use Rattle.mon_host.proofs.Promised.{quietly, then_follows}
use Rattle.mon_host.specs.Then.{Quietly}
use Rattle.mon_settings_commands.proofs.Turns.{fails_quietly}
use Rattle.mon_settings_commands.proofs.existing.names_in.Goals as goal

pub returns : goal.returns
returns g c =
    let now = g.H.Host.log c.args.host.now in
    let end = g.H.Host.log c.names_by.new.host in
    let files = c.in_ok-files.files in
    let named = subst (λ (fs : List (String Global)). GoesOnBy (λ log. AreNames (map string_bytes fs) log c.names_by.result) now end) c.as_slice.ensures.value c.names_by.ensures in
    then_follows (Quietly (AreModuleFiles c.args.text.now)) (λ fs. AreNames (map string_bytes fs.items)) (Ok files) c.names_by.result now now end
    (quietly (AreModuleFiles c.args.text.now) (Ok files) now c.in_ok-files.ensures) named

pub returns-in_err-files : goal.returns-in_err-files
returns-in_err-files g c = fails_quietly (AreModuleFiles c.args.text.now) (λ fs. AreNames (map string_bytes fs.items)) c.in_err-files.field-0.0 c.from_residual.result
    (g.H.Host.log c.args.host.now) c.from_residual.ensures.1 c.in_err-files.ensures
