use Rattle.mon_smi.proofs.Meanings.{alone_named, cut_named}
use Rattle.mon_smi.proofs.names.name_in.Goals as goal

pub returns-in-Some : goal.returns-in-Some
returns-in-Some c = λ w rest named. (cut_named c.args.text.now c.split_once.result _ c.split_once.ensures.cases c.in-Some.is w rest named).0

pub returns-in-None : goal.returns-in-None
returns-in-None c = alone_named c.args.text.now c.split_once.result c.split_once.ensures.cases c.in-None.is
