use Rattle.std.proofs.Common.{string_bytes}
use Rattle.mon_console.specs.Files.{IsReplacing}
use Rattle.mon_settings_commands.specs.Source.{source_in}
use Rattle.mon_settings_commands.specs.Updated.{IsRelabelledText}
use Rattle.mon_settings_commands.proofs.Turns.{fails_quietly}
use Rattle.mon_settings_commands.proofs.updating.write_relabelled_file.Goals as goal

pub returns-in_err-text : goal.returns-in_err-text
returns-in_err-text g c =
    let f = c.args.file in
    fails_quietly (IsRelabelledText (source_in c.args.input.now) f.old.existing.now f.known.now f.path.now f.old.labels.now) (λ text. IsReplacing f.path.now (string_bytes text)) c.in_err-text.field-0.0
    c.from_residual.result (g.H.Host.log c.args.host.now) c.from_residual.ensures.1 c.in_err-text.ensures
