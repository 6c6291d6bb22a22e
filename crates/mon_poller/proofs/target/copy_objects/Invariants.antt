use Rattle.std.proofs.Common.{◌≡◌, take}
use Rattle.mon_poller.proofs.target.copy_objects.Given as goal

-- what was copied so far
abbrev pub invariant-loop-object : goal.invariant-loop-object
invariant-loop-object l = l.copies.items ≡ take l.object-index l.all
