use Rattle.mon_display.proofs.Rounding.{few, many}
use Rattle.mon_display.proofs.laws.three_digits.Goals as goal

pub returns-clause-few : goal.returns-clause-few
returns-clause-few c n h = few n h

pub returns-clause-many : goal.returns-clause-many
returns-clause-many c n h = many n h
