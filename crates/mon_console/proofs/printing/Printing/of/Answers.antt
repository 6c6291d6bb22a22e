use Rattle.std.proofs.Common.{refl}
use Rattle.std.specs.Prelude.{None}
use Rattle.mon_console.proofs.Stations.{printing_by}
use Rattle.mon_console.proofs.printing.Printing.of.Goals as goal

pub returns-clause-done : goal.returns-clause-done
returns-clause-done g c = printing_by c.args.printed c.args.known.names c.in_ok-known.known.names c.args.files.now _ (g.H.Host.log c.args.host.now) (g.H.Host.log c.add_others.new.host)
    c.in_ok-known.ensures (refl, refl, c.names_if.ensures, c.new.ensures.items, λ k. record { label = None; file_age = None; sort = c.unwrap_or.ensures k; station = None })
