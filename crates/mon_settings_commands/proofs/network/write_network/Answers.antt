use Rattle.std.proofs.Common.{List, [], subst}
use Rattle.std.specs.Prelude.{Err, Ok}
use Rattle.mon_client.specs.Network.{agents_by}
use Rattle.mon_host.specs.Log.{GoesOnBy}
use Rattle.mon_host.proofs.Promised.{then_follows}
use Rattle.mon_settings_commands.specs.Network.{AreFilesOf, Each, IsFileWritten, IsFree}
use Rattle.mon_settings_commands.specs.Settings.{AreLabels}
use Rattle.mon_settings_commands.specs.Source.{source_in}
use Rattle.mon_settings_commands.specs.declared.network.Output.{Output}
use Rattle.mon_settings_commands.proofs.Networks.{AfterFiles, AfterFree, AfterMade}
use Rattle.mon_settings_commands.proofs.Turns.{fails, fails_quietly, quietly_then}
use Rattle.mon_settings_commands.proofs.network.write_network.Goals as goal

pub returns-in_err-outputs : goal.returns-in_err-outputs
returns-in_err-outputs g c =
    let agents = agents_by (g.N.Opens.has_opened c.args.net.now) (g.N.Opens.has_failed c.args.net.now) g.N.Wire.Wire.log in
    let s = source_in c.args.input.now in
    fails_quietly (AreFilesOf agents s c.args.files.folder.now c.args.files.network) (AfterFiles s) c.in_err-outputs.field-0.0 c.from_residual.result (g.H.Host.log c.args.host.now) c.from_residual.ensures.1
    c.in_err-outputs.ensures

pub returns-in_err-require_free : goal.returns-in_err-require_free
returns-in_err-require_free g c =
    let agents = agents_by (g.N.Opens.has_opened c.args.net.now) (g.N.Opens.has_failed c.args.net.now) g.N.Wire.Wire.log in
    let s = source_in c.args.input.now in
    let now = g.H.Host.log c.args.host.now in
    let looked = g.H.Host.log c.require_free.new.host in
    let outputs = c.in_ok-outputs.outputs in
    let failure = c.in_err-require_free.field-0.0 in
    let r = c.from_residual-in_err-require_free.result in
    let free = subst (λ (xs : List Output). GoesOnBy (λ log. Each IsFree xs log (Err failure)) now looked) c.as_slice.ensures.value c.in_err-require_free.ensures in
    quietly_then (AreFilesOf agents s c.args.files.folder.now c.args.files.network) (AfterFiles s) outputs r now looked c.in_ok-outputs.ensures
    (fails (Each IsFree outputs.items) (AfterFree s outputs) failure r now looked c.from_residual-in_err-require_free.ensures.1 free)

pub returns-in_err-write_labels : goal.returns-in_err-write_labels
returns-in_err-write_labels g c =
    let agents = agents_by (g.N.Opens.has_opened c.args.net.now) (g.N.Opens.has_failed c.args.net.now) g.N.Wire.Wire.log in
    let s = source_in c.args.input.now in
    let now = g.H.Host.log c.args.host.now in
    let looked = g.H.Host.log c.require_free.new.host in
    let labelled = g.H.Host.log c.write_labels.new.host in
    let outputs = c.in_ok-outputs.outputs in
    let r = c.from_residual-in_err-write_labels.result in
    let free = subst (λ (xs : List Output). GoesOnBy (λ log. Each IsFree xs log (Ok c.in_ok-require_free.field-0)) now looked) c.as_slice.ensures.value c.in_ok-require_free.ensures in
    quietly_then (AreFilesOf agents s c.args.files.folder.now c.args.files.network) (AfterFiles s) outputs r now labelled c.in_ok-outputs.ensures
    (then_follows (Each IsFree outputs.items) (AfterFree s outputs) (Ok c.in_ok-require_free.field-0) r now looked labelled free
    (fails (AreLabels s []) (AfterMade outputs) c.in_err-write_labels.field-0.0 r looked labelled c.from_residual-in_err-write_labels.ensures.1 c.in_err-write_labels.ensures))

pub returns : goal.returns
returns g c =
    let agents = agents_by (g.N.Opens.has_opened c.args.net.now) (g.N.Opens.has_failed c.args.net.now) g.N.Wire.Wire.log in
    let s = source_in c.args.input.now in
    let now = g.H.Host.log c.args.host.now in
    let looked = g.H.Host.log c.require_free.new.host in
    let labelled = g.H.Host.log c.write_labels.new.host in
    let end = g.H.Host.log c.write_outputs.new.host in
    let outputs = c.in_ok-outputs.outputs in
    let r = c.write_outputs.result in
    let free = subst (λ (xs : List Output). GoesOnBy (λ log. Each IsFree xs log (Ok c.in_ok-require_free.field-0)) now looked) c.as_slice.ensures.value c.in_ok-require_free.ensures in
    let written = subst (λ (xs : List Output). GoesOnBy (λ log. Each IsFileWritten xs log r) labelled end) c.as_slice-2.ensures.value c.write_outputs.ensures in
    quietly_then (AreFilesOf agents s c.args.files.folder.now c.args.files.network) (AfterFiles s) outputs r now end c.in_ok-outputs.ensures
    (then_follows (Each IsFree outputs.items) (AfterFree s outputs) (Ok c.in_ok-require_free.field-0) r now looked end free
    (then_follows (AreLabels s []) (AfterMade outputs) (Ok c.in_ok-write_labels.field-0) r looked labelled end c.in_ok-write_labels.ensures written))
