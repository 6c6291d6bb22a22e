use Rattle.mon_app.proofs.Outcomes.{meets, one_text, kept_meets}
use Rattle.mon_app.proofs.laws.one_text.Goals as goal

pub returns : goal.returns
returns c = record {
  meets = meets c.readings.ensures.says c.readings.ensures.only;
  only = one_text c.readings.ensures.says c.readings.ensures.only;
  kept = kept_meets c.readings.ensures.says c.readings.ensures.only;
}
