use Rattle.mon_smi.proofs.ForText.{no_fault}
use Rattle.mon_smi.proofs.modules.read_module.Goals as goal

pub returns-clause-accepted : goal.returns-clause-accepted
returns-clause-accepted c = λ name defs is distinct. no_fault c.args.text.now name defs c.module_of.result c.module_of.ensures.fault is distinct
