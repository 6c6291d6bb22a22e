use Rattle.std.proofs.Common.{List, ℕ, map, string_bytes, subst, sym}
use Rattle.std.specs.Prelude.{Err, Ok, String}
use Rattle.std.specs.Global.{Global}
use Rattle.mon_console.specs.Naming.{AreNames}
use Rattle.mon_console.specs.Printing.{IsPrinting}
use Rattle.mon_console.specs.Settings.{AreModuleFiles, AreSettings, IsStationFile}
use Rattle.mon_host.specs.Log.{GoesOnBy}
use Rattle.mon_smi.specs.declared.definition.Definition.{Definition}
use Rattle.mon_console.proofs.Added.{failure_is}
use Rattle.mon_console.specs.Settings.{Both}
use Rattle.mon_console.proofs.Stations.{after_files, after_names, after_printing, after_settings, after_text, no_files, no_names, no_printing, no_settings}
use Rattle.mon_console.proofs.settings.read_station_file.Goals as goal

pub returns-in_err-files : goal.returns-in_err-files
returns-in_err-files g c =
    let printed = c.args.printed in
    let path = c.args.path.now in
    let before = g.H.Host.log c.args.host.now in
    let read = g.H.Host.log c.read_text.new.host in
    let text = c.in_ok-text.text in
    let octets = string_bytes text in
    let failure = c.in_err-files.field-0.0 in
    let is = failure_is c.from_residual-in_err-files.result failure c.from_residual-in_err-files.ensures.1 in
    let refused = subst (λ (o : List ℕ). AreModuleFiles o (Err failure)) c.as_str.ensures.value c.in_err-files.ensures in
    subst (λ (r : Both). GoesOnBy (λ log. IsStationFile path printed log r) before read) (sym is)
    (after_text printed path text (Err failure) before read read c.in_ok-text.ensures (no_files printed octets failure read refused))

pub returns-in_err-known : goal.returns-in_err-known
returns-in_err-known g c =
    let printed = c.args.printed in
    let path = c.args.path.now in
    let before = g.H.Host.log c.args.host.now in
    let read = g.H.Host.log c.read_text.new.host in
    let text = c.in_ok-text.text in
    let octets = string_bytes text in
    let files = c.in_ok-files.files in
    let listed = subst (λ (o : List ℕ). AreModuleFiles o (Ok files)) c.as_str.ensures.value c.in_ok-files.ensures in
    let known = g.H.Host.log c.known_names_in.new.host in
    let failure = c.in_err-known.field-0.0 in
    let is = failure_is c.from_residual-in_err-known.result failure c.from_residual-in_err-known.ensures.1 in
    let refused = subst (λ (fs : List (String Global)). GoesOnBy (λ log. AreNames (map string_bytes fs) log (Err failure)) read known) c.as_slice.ensures.value c.in_err-known.ensures in
    subst (λ (r : Both). GoesOnBy (λ log. IsStationFile path printed log r) before known) (sym is)
    (after_text printed path text (Err failure) before read known c.in_ok-text.ensures
    (after_files printed octets files (Err failure) read known listed (no_names printed octets files failure read known refused)))

pub returns-in_err-settings : goal.returns-in_err-settings
returns-in_err-settings g c =
    let printed = c.args.printed in
    let path = c.args.path.now in
    let before = g.H.Host.log c.args.host.now in
    let read = g.H.Host.log c.read_text.new.host in
    let text = c.in_ok-text.text in
    let octets = string_bytes text in
    let files = c.in_ok-files.files in
    let listed = subst (λ (o : List ℕ). AreModuleFiles o (Ok files)) c.as_str.ensures.value c.in_ok-files.ensures in
    let known = g.H.Host.log c.known_names_in.new.host in
    let names = c.in_ok-known.known.names in
    let named = subst (λ (fs : List (String Global)). GoesOnBy (λ log. AreNames (map string_bytes fs) log (Ok names)) read known) c.as_slice.ensures.value c.in_ok-known.ensures in
    let failure = c.in_err-settings.field-0.0 in
    let is = failure_is c.from_residual-in_err-settings.result failure c.from_residual-in_err-settings.ensures.1 in
    let refused = subst (λ (o : List ℕ). AreSettings o names (Err failure)) c.as_str-2.ensures.value
    (subst (λ (ns : List Definition). AreSettings c.as_str-2.result.now ns (Err failure)) c.names.ensures c.in_err-settings.ensures) in
    subst (λ (r : Both). GoesOnBy (λ log. IsStationFile path printed log r) before known) (sym is)
    (after_text printed path text (Err failure) before read known c.in_ok-text.ensures
    (after_files printed octets files (Err failure) read known listed
    (after_names printed octets files names (Err failure) read known known named (no_settings printed octets files.items names failure known refused))))

pub returns-in_err-printing : goal.returns-in_err-printing
returns-in_err-printing g c =
    let printed = c.args.printed in
    let path = c.args.path.now in
    let before = g.H.Host.log c.args.host.now in
    let read = g.H.Host.log c.read_text.new.host in
    let text = c.in_ok-text.text in
    let octets = string_bytes text in
    let files = c.in_ok-files.files in
    let listed = subst (λ (o : List ℕ). AreModuleFiles o (Ok files)) c.as_str.ensures.value c.in_ok-files.ensures in
    let known = g.H.Host.log c.known_names_in.new.host in
    let names = c.in_ok-known.known.names in
    let named = subst (λ (fs : List (String Global)). GoesOnBy (λ log. AreNames (map string_bytes fs) log (Ok names)) read known) c.as_slice.ensures.value c.in_ok-known.ensures in
    let settings = c.in_ok-settings.settings in
    let are = subst (λ (o : List ℕ). AreSettings o names (Ok settings)) c.as_str-2.ensures.value
    (subst (λ (ns : List Definition). AreSettings c.as_str-2.result.now ns (Ok settings)) c.names.ensures c.in_ok-settings.ensures) in
    let after = g.H.Host.log c.of.new.host in
    let failure = c.in_err-printing.field-0.0 in
    let is = failure_is c.from_residual-in_err-printing.result failure c.from_residual-in_err-printing.ensures.1 in
    let refused = subst (λ (fs : List (String Global)). GoesOnBy (λ log. IsPrinting printed names fs log (Err failure)) known after) c.as_slice-2.ensures.value c.in_err-printing.ensures.done in
    subst (λ (r : Both). GoesOnBy (λ log. IsStationFile path printed log r) before after) (sym is)
    (after_text printed path text (Err failure) before read after c.in_ok-text.ensures
    (after_files printed octets files (Err failure) read after listed
    (after_names printed octets files names (Err failure) read known after named
    (after_settings printed octets files.items names settings (Err failure) known after are (no_printing printed files.items names settings failure known after refused)))))

pub returns : goal.returns
returns g c =
    let printed = c.args.printed in
    let path = c.args.path.now in
    let before = g.H.Host.log c.args.host.now in
    let read = g.H.Host.log c.read_text.new.host in
    let text = c.in_ok-text.text in
    let octets = string_bytes text in
    let files = c.in_ok-files.files in
    let listed = subst (λ (o : List ℕ). AreModuleFiles o (Ok files)) c.as_str.ensures.value c.in_ok-files.ensures in
    let known = g.H.Host.log c.known_names_in.new.host in
    let names = c.in_ok-known.known.names in
    let named = subst (λ (fs : List (String Global)). GoesOnBy (λ log. AreNames (map string_bytes fs) log (Ok names)) read known) c.as_slice.ensures.value c.in_ok-known.ensures in
    let settings = c.in_ok-settings.settings in
    let are = subst (λ (o : List ℕ). AreSettings o names (Ok settings)) c.as_str-2.ensures.value
    (subst (λ (ns : List Definition). AreSettings c.as_str-2.result.now ns (Ok settings)) c.names.ensures c.in_ok-settings.ensures) in
    let after = g.H.Host.log c.of.new.host in
    let printing = c.in_ok-printing.printing in
    let both : Both = Ok (settings, printing) in
    let done = subst (λ (fs : List (String Global)). GoesOnBy (λ log. IsPrinting printed names fs log (Ok printing)) known after) c.as_slice-2.ensures.value c.in_ok-printing.ensures.done in
    after_text printed path text both before read after c.in_ok-text.ensures
    (after_files printed octets files both read after listed
    (after_names printed octets files names both read known after named
    (after_settings printed octets files.items names settings both known after are (after_printing printed files.items names settings printing known after done))))
