use Rattle.std.proofs.Common.{◌∙◌, ap, map, string_bytes, subst, sym}
use Rattle.std.specs.Prelude.{Result}
use Rattle.mon_console.specs.Naming.{AreJoinedFromAll, left}
use Rattle.mon_console.specs.declared.failure.Failure.{Failure}
use Rattle.mon_host.specs.Log.{GoesOnBy}
use Rattle.mon_console.proofs.Added.{failure_is, file_added, file_failed, none_left}
use Rattle.mon_console.proofs.naming.KnownNames.add_files.Goals as goal

pub returns-in_err-add_file : goal.returns-in_err-add_file
returns-in_err-add_file g c =
    let all = map string_bytes c.args.files.now in
    let start = c.args.self.now.names in
    let before = g.H.Host.log c.args.host.now in
    let after = g.H.Host.log c.add_file.new.host in
    let is = failure_is c.from_residual.result c.in_err-add_file.field-0.0 c.from_residual.ensures.1 in
    subst (λ (r : Result Unit Failure). GoesOnBy (λ log. AreJoinedFromAll start all log (left c.add_file.new.self.names r)) before after) (sym is)
    (file_failed (λ s. string_bytes s) start all c.args.files.now c.loop-file.file-index c.file-item.result c.as_str.result.now c.loop-file.self.names c.add_file.new.self.names
    c.in_err-add_file.field-0.0 before (g.H.Host.log c.loop-file.host) after c.loop-file-test.true (c.as_str.ensures.value ∙ ap (λ s. string_bytes s) c.file-item.is)
    c.loop-file.invariant c.in_err-add_file.ensures)

pub loop-file-preserved : goal.loop-file-preserved
loop-file-preserved g c =
    file_added (λ s. string_bytes s) c.args.self.now.names (map string_bytes c.args.files.now) c.args.files.now c.loop-file.file-index c.file-item.result c.as_str.result.now
    c.loop-file.self.names c.add_file.new.self.names c.in_ok-add_file.field-0 (g.H.Host.log c.args.host.now) (g.H.Host.log c.loop-file.host) (g.H.Host.log c.add_file.new.host)
    c.loop-file-test.true (c.as_str.ensures.value ∙ ap (λ s. string_bytes s) c.file-item.is) c.loop-file.invariant c.in_ok-add_file.ensures

pub returns : goal.returns
returns g c = none_left (λ s. string_bytes s) c.args.self.now.names (map string_bytes c.args.files.now) c.args.files.now c.loop-file.file-index c.loop-file.self.names
    (g.H.Host.log c.args.host.now) (g.H.Host.log c.loop-file.host) c.loop-file-test.false c.loop-file.invariant
