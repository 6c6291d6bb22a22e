use Rattle.std.proofs.Common.{◌≡◌, ◌++◌, drop}
use Rattle.mon_poller.specs.Lent.{lent_stamp}
use Rattle.mon_poller.specs.Verdict.{object_offers}
use Rattle.mon_poller.proofs.offers.object_offers.Given as goal

-- what was offered so far, and what the rest offers of the other objects, is all
abbrev pub invariant-loop-object : goal.invariant-loop-object
invariant-loop-object l = l.pairs ++ object_offers (lent_stamp l.stamp) (drop l.object-index l.objects) l.rest ≡ object_offers (lent_stamp l.stamp) l.objects l.bindings
