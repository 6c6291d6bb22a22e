use Rattle.mon_station.specs.Lived.{entries_of}
use Rattle.mon_station.specs.Taken.{taken}
use Rattle.mon_station.proofs.Headline.{left_alone, newest_kept, untaken}
use Rattle.mon_station.proofs.laws.headline.Goals as goal

pub returns : goal.returns
returns c = record {
  windows = c.taken.ensures.windows;
  equal = c.taken.ensures.equal;
  reports = c.taken.ensures.reports;
  newest = λ history s lived is i whole. newest_kept c.whole_epoch.ensures s i (taken (entries_of history) i) whole (c.taken.ensures.windows history s lived is i);
  commutative = c.joining.ensures.commutative;
  associative = c.joining.ensures.associative;
  idempotent = c.joining.ensures.idempotent;
  refused = left_alone c.taken.ensures.windows;
  untaken = untaken;
}
