use Rattle.std.proofs.Common.{map, string_bytes, subst, sym}
use Rattle.std.specs.Prelude.{Err, Ok, Result}
use Rattle.mon_console.specs.Naming.{AreNames, names_in}
use Rattle.mon_console.specs.declared.failure.Failure.{Failure}
use Rattle.mon_console.specs.declared.naming.KnownNames.{KnownNames}
use Rattle.mon_host.specs.Log.{GoesOnBy}
use Rattle.mon_console.proofs.Added.{failure_is, known, unknown}
use Rattle.mon_console.proofs.naming.known_names_in.Goals as goal

pub returns-in_err-known : goal.returns-in_err-known
returns-in_err-known g c =
    let paths = map string_bytes c.args.files.now in
    let host = g.H.Host.log c.args.host.now in
    let is = failure_is c.from_residual.result c.in_err-known.field-0.0 c.from_residual.ensures.1 in
    subst (λ (r : Result KnownNames Failure). GoesOnBy (λ log. AreNames paths log (names_in r)) host host) (sym is) (unknown paths c.in_err-known.field-0.0 host c.in_err-known.ensures)

pub returns-in_err-add_files : goal.returns-in_err-add_files
returns-in_err-add_files g c =
    let paths = map string_bytes c.args.files.now in
    let before = g.H.Host.log c.args.host.now in
    let after = g.H.Host.log c.add_files.new.host in
    let failure = c.in_err-add_files.field-0.0 in
    let is = failure_is c.from_residual-in_err-add_files.result failure c.from_residual-in_err-add_files.ensures.1 in
    subst (λ (r : Result KnownNames Failure). GoesOnBy (λ log. AreNames paths log (names_in r)) before after) (sym is)
    (known c.in_ok-known.known.names paths (Err failure) before after c.in_ok-known.ensures c.in_err-add_files.ensures)

pub returns : goal.returns
returns g c = known c.in_ok-known.known.names (map string_bytes c.args.files.now) (Ok c.add_files.new.self.names) (g.H.Host.log c.args.host.now)
    (g.H.Host.log c.add_files.new.host) c.in_ok-known.ensures c.in_ok-add_files.ensures
