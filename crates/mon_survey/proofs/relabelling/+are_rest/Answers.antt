use Rattle.mon_survey.proofs.Steps.{no_rest}
use Rattle.mon_survey.proofs.relabelling.+are_rest.Goals as goal

pub returns-in_default : goal.returns-in_default
returns-in_default t c = no_rest c.args.engine.now c.args.old.now c.args.new.now c.is_empty.result c.in_default.len_below c.is_empty.ensures
