use Rattle.std.proofs.Common.{◌≡◌}
use Rattle.mon_web.proofs.server.Server.wait.Given as goal

-- what is shown stays: the table is the third field
abbrev pub invariant-loop-event : goal.invariant-loop-event
invariant-loop-event g l = l.self.1.1.1.0.pages ≡ l.fn.self.table.pages
