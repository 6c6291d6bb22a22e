use Rattle.std.proofs.Common.{◌⊎◌, Some, inr}
use Rattle.std.specs.Prelude.{Err}
use Rattle.mon_client.specs.Network.{agents_by}
use Rattle.mon_console.specs.Failure.{IsMemory}
use Rattle.mon_console.specs.declared.failure.Failure.{Failure}
use Rattle.mon_settings_commands.specs.Fitting.{AreFitting}
use Rattle.mon_settings_commands.specs.Settings.{IsSettingsOf}
use Rattle.mon_settings_commands.specs.Source.{source_in}
use Rattle.mon_settings_commands.proofs.Groups.{still}
use Rattle.mon_settings_commands.proofs.parts.add_part.Goals as goal

pub returns-in_err-part-clause-refused : goal.returns-in_err-part-clause-refused
returns-in_err-part-clause-refused g c = still (λ (f : Failure). IsMemory f ⊎ AreFitting (agents_by (g.N.Opens.has_opened c.args.net.now) (g.N.Opens.has_failed c.args.net.now) g.N.Wire.Wire.log) c.args.input.now.asked (IsSettingsOf (source_in c.args.input.now) (Some c.args.group)) (Err f)) c.in_err-part.field-0.0 c.from_residual.result
    c.from_residual.ensures.1 (inr c.in_err-part.ensures)

pub returns-clause-added : goal.returns-clause-added
returns-clause-added g c = (c.in_ok-part.part, c.in_ok-push.ensures.items, c.in_ok-part.ensures)
