use Rattle.mon_poller.proofs.Short.{binding_few}
use Rattle.mon_poller.proofs.asking.name_binding.Goals as goal

pub returns-clause-short : goal.returns-clause-short
returns-clause-short c = binding_few c.args.name c.look_at_name.ensures
