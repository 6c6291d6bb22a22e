use Rattle.mon_app.proofs.Readings.{says, only}
use Rattle.mon_app.proofs.laws.readings.Goals as goal

pub returns : goal.returns
returns c = record {
  says = says c.takes.ensures c.again.ensures;
  only = only c.takes.ensures c.again.ensures;
}
