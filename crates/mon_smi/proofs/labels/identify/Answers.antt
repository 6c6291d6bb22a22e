use Rattle.mon_smi.proofs.Labelled.{meant, meaningless}
use Rattle.mon_smi.proofs.labels.identify.Goals as goal

pub returns-in-Ok-clause-found : goal.returns-in-Ok-clause-found
returns-in-Ok-clause-found c =
    let found = c.in-Ok.ensures.found in
    (found.0, meant c.args.defs.now c.args.name.now found.1.0 c.in-Ok.oid c.requires.distinct found.1.1 found.1.2)

pub returns-in_default : goal.returns-in_default
returns-in_default c = record {
  found = tt;
  none = λ q oid is. meaningless c.in-Err.fault c.args.defs.now c.args.name.now q c.requires.distinct c.in_default.not-OutOfMemory c.in-Err.ensures.fault oid is;
}
