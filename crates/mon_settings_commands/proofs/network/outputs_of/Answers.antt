use Rattle.std.proofs.Common.{◌⊎◌, ◌∙◌, inl, inr, subst, sym}
use Rattle.std.specs.Global.{Vec}
use Rattle.std.specs.Prelude.{Result}
use Rattle.mon_client.specs.Network.{agents_by}
use Rattle.mon_console.specs.declared.failure.Failure.{Failure}
use Rattle.mon_settings_commands.specs.Network.{AreFilesOf}
use Rattle.mon_settings_commands.specs.Source.{source_in}
use Rattle.mon_settings_commands.specs.declared.network.Output.{Output}
use Rattle.mon_settings_commands.proofs.Seated.{no_groups, no_seats}
use Rattle.mon_settings_commands.proofs.Turns.{failure_is}
use Rattle.mon_settings_commands.proofs.network.outputs_of.Goals as goal

pub returns-in_err-groups : goal.returns-in_err-groups
returns-in_err-groups g c =
    let agents = agents_by (g.N.Opens.has_opened c.args.net.now) (g.N.Opens.has_failed c.args.net.now) g.N.Wire.Wire.log in
    let s = source_in c.args.input.now in
    subst (λ (r : Result (Vec Output) Failure). AreFilesOf agents s c.args.files.folder.now c.args.files.network r) (sym (failure_is c.from_residual.result c.in_err-groups.field-0.0 c.from_residual.ensures.1))
    (no_groups agents s c.args.files.folder.now c.args.files.network c.in_err-groups.field-0.0 c.in_err-groups.ensures.refused)

pub returns-in_err-outputs : goal.returns-in_err-outputs
returns-in_err-outputs g c =
    let agents = agents_by (g.N.Opens.has_opened c.args.net.now) (g.N.Opens.has_failed c.args.net.now) g.N.Wire.Wire.log in
    let s = source_in c.args.input.now in
    subst (λ (r : Result (Vec Output) Failure). AreFilesOf agents s c.args.files.folder.now c.args.files.network r) (sym (failure_is c.from_residual-in_err-outputs.result c.in_err-outputs.field-0.0 c.from_residual-in_err-outputs.ensures.1))
    (no_seats agents s c.args.files.folder.now c.args.files.network c.in_err-outputs.field-0.0 c.in_err-outputs.ensures.refused)

pub returns : goal.returns
returns g c =
    let listings = c.in_ok-add_lists.ensures in
    record {
      groups = c.in_ok-groups.groups;
      has = c.in_ok-groups.ensures.last;
      placed = c.in_ok-groups.ensures.placed;
      seats = c.in_ok-outputs.outputs.items;
      each = c.in_ok-outputs.ensures.each;
      all = c.in_ok-outputs.ensures.all;
      targets = listings.0;
      targets_are = listings.3;
      units = listings.1;
      units_are = listings.4;
      files_are = listings.2;
    }
