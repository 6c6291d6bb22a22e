use Rattle.std.proofs.Common.{◌≡◌}
use Rattle.mon_web.specs.Pages.{view_of}
use Rattle.mon_web.proofs.table.Table.turn.Given as goal

-- what is shown stays
abbrev pub invariant-loop : goal.invariant-loop
invariant-loop g l = view_of g.C.Content.says l.self.pages ≡ view_of g.C.Content.says l.fn.self.pages
