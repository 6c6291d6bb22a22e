use Rattle.std.proofs.Common.{List, ℕ, map, subst, sym}
use Rattle.std.specs.Prelude.{Result}
use Rattle.mon_console.specs.Naming.{AreJoinedFromAll, AreNames, names_in}
use Rattle.mon_console.specs.declared.failure.Failure.{Failure}
use Rattle.mon_console.specs.declared.naming.KnownNames.{KnownNames}
use Rattle.mon_host.specs.Log.{GoesOnBy}
use Rattle.mon_console.proofs.Added.{failure_is, known, others_of_none, unknown}
use Rattle.mon_console.proofs.naming.known_names.Goals as goal

pub returns-in_err-known : goal.returns-in_err-known
returns-in_err-known g c =
    let paths = map (λ p. p.now) c.args.files.now in
    let host = g.H.Host.log c.args.host.now in
    let is = failure_is c.from_residual.result c.in_err-known.field-0.0 c.from_residual.ensures.1 in
    subst (λ (r : Result KnownNames Failure). GoesOnBy (λ log. AreNames paths log (names_in r)) host host) (sym is) (unknown paths c.in_err-known.field-0.0 host c.in_err-known.ensures)

pub returns : goal.returns
returns g c =
    let paths = map (λ p. p.now) c.args.files.now in
    let before = g.H.Host.log c.args.host.now in
    let after = g.H.Host.log c.add_others.new.host in
    let names = c.in_ok-known.known.names in
    known names paths (names_in c.add_others.result) before after c.in_ok-known.ensures
    (subst (λ (ps : List (List ℕ)). GoesOnBy (λ log. AreJoinedFromAll names ps log (names_in c.add_others.result)) before after) (others_of_none paths) c.add_others.ensures)
