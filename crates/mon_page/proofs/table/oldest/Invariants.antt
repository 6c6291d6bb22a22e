use Rattle.std.proofs.Common.{◌≡◌, drop, None}
use Rattle.mon_page.specs.Page.{oldest}
use Rattle.mon_page.proofs.table.oldest.Given as goal

-- of the greatest so far and those that are left the greatest is that of all
abbrev pub invariant-loop-row : goal.invariant-loop-row
invariant-loop-row l = oldest l.age (drop l.row-index l.rows) ≡ oldest None l.rows
