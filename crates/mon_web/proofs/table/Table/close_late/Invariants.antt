use Rattle.std.proofs.Common.{◌≡◌}
use Rattle.mon_web.proofs.Swept.{Swept}
use Rattle.mon_web.proofs.table.Table.close_late.Given as goal

-- what is shown stays, and the places before are swept
abbrev pub invariant-loop-place : goal.invariant-loop-place
invariant-loop-place g l = (l.self.pages ≡ l.fn.self.pages)
    × Swept l.now l.place l.fn.self.slots.items l.self.slots.items
