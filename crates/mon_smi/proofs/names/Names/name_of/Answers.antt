use Rattle.std.proofs.Common.{List, subst, string_bytes}
use Rattle.std.specs.Prelude.{IfOk}
use Rattle.mon_smi.specs.declared.definition.Definition.{Definition}
use Rattle.mon_smi.specs.Nearest.{IsNameOf}
use Rattle.mon_smi.proofs.names.Names.name_of.Goals as goal

pub returns : goal.returns
returns c = subst (λ (defs : List Definition). IfOk c.name_of-2.result (λ text. IsNameOf defs c.args.oid.now (string_bytes text))) c.in_ok-labels.ensures c.name_of-2.ensures.name
