use Rattle.mon_display.proofs.Rounding.{above, below}
use Rattle.mon_display.proofs.laws.rounding.Goals as goal

pub returns-clause-below : goal.returns-clause-below
returns-clause-below c n step h = below n step h

pub returns-clause-above : goal.returns-clause-above
returns-clause-above c n step h = above n step h
