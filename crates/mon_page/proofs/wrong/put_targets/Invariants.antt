use Rattle.std.proofs.Common.{◌≡◌, ◌++◌, take}
use Rattle.std.specs.List.{flat_map}
use Rattle.mon_page.specs.Page.{down_item}
use Rattle.mon_page.proofs.wrong.put_targets.Given as goal

-- those so far are written
abbrev pub invariant-loop-target : goal.invariant-loop-target
invariant-loop-target l = l.text.items ≡ l.fn.text.items ++ flat_map (down_item l.rows) (take l.target-index l.targets)
