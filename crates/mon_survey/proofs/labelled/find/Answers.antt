use Rattle.toml.proofs.Views.{table_get}
use Rattle.mon_survey.proofs.labelled.find.Goals as goal

pub returns : goal.returns
returns c = table_get c.get.result _ c.args.table.now.entries c.get.ensures.value
