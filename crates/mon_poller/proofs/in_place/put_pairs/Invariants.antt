use Rattle.std.proofs.Common.{drop}
use Rattle.mon_poller.specs.Lent.{lent_stamp}
use Rattle.mon_poller.proofs.InPlace.{IsLeft}
use Rattle.mon_poller.proofs.in_place.put_pairs.Given as goal

-- the names of the other objects are left, and what these offer completes it
abbrev pub invariant-loop-object : goal.invariant-loop-object
invariant-loop-object l = IsLeft (lent_stamp l.stamp) l.objects l.fn.unread.list.now l.fn.pairs (drop l.object-index l.objects) l.rest.names.now l.rest.list.now l.pairs
