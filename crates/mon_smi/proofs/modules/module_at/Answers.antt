use Rattle.std.proofs.Common.{List, sym, subst}
use Rattle.mon_smi.specs.declared.definition.Definition.{Definition}
use Rattle.mon_smi.specs.ModuleFaults.{AllBegin}
use Rattle.mon_smi.proofs.Begun.{all_behind_first}
use Rattle.mon_smi.proofs.modules.module_at.Goals as goal

pub returns-clause-starts : goal.returns-clause-starts
returns-clause-starts c =
    subst (λ (l : List Definition). AllBegin c.args.ls.now c.in_ok-body.body.starts.items l) (sym c.new-defs.ensures)
    (all_behind_first c.args.ls.now c.in_ok-body.body.starts.items c.in_ok-body.body.defs.items c.in_ok-body.ensures.starts)
