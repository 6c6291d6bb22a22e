use Rattle.std.proofs.Common.{drop, map}
use Rattle.mon_console.specs.Naming.{others}
use Rattle.mon_console.proofs.Added.{Leads}
use Rattle.mon_console.proofs.naming.add_others.Given as goal

-- whatever becomes of the paths that are left becomes of all of them
abbrev pub invariant-loop-path : goal.invariant-loop-path
invariant-loop-path g l = Leads l.fn.known.names l.known.names (others l.files (map (λ p. p.now) l.paths)) (others l.files (map (λ p. p.now) (drop l.path-index l.paths)))
    (g.H.Host.log l.fn.host) (g.H.Host.log l.host)
