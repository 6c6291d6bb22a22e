use Rattle.mon_page.proofs.Plotted.{higher, lowest, newest, rising}
use Rattle.mon_page.proofs.laws.plotted_points.Goals as goal

pub returns-clause-newest : goal.returns-clause-newest
returns-clause-newest c = newest

pub returns-clause-rising : goal.returns-clause-rising
returns-clause-rising c = rising

pub returns-clause-higher : goal.returns-clause-higher
returns-clause-higher c = higher

pub returns-clause-lowest : goal.returns-clause-lowest
returns-clause-lowest c = lowest
