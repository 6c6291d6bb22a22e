use Rattle.mon_survey.proofs.Steps.{no_interface}
use Rattle.mon_survey.proofs.labelled.+are_interfaces.Goals as goal

pub returns-in_default : goal.returns-in_default
returns-in_default t c =
    no_interface c.args.source.now.engine.now c.args.source.now.answers.now c.args.indexes.now c.args.values.now c.is_empty.result c.in_default.len_below c.is_empty.ensures
