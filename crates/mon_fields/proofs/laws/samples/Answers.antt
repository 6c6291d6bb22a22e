use Rattle.mon_fields.proofs.Samples.{samples_takes, samples_again}
use Rattle.mon_fields.proofs.laws.samples.Goals as goal

pub returns-clause-takes : goal.returns-clause-takes
returns-clause-takes c = samples_takes

pub returns-clause-again : goal.returns-clause-again
returns-clause-again c = samples_again c.one_number.ensures
