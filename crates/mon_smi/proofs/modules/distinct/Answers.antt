use Rattle.std.proofs.Common.{ℕ, List, Option, subst}
use Rattle.std.specs.Prelude.{IfSome}
use Rattle.mon_smi.specs.declared.definition.Definition.{Definition}
use Rattle.mon_smi.specs.Places.{IsAgain}
use Rattle.mon_smi.proofs.Begun.{twice_found}
use Rattle.mon_smi.proofs.modules.distinct.Goals as goal

pub returns-in-Some-clause-fault : goal.returns-in-Some-clause-fault
returns-in-Some-clause-fault c =
    let again = subst (λ (l : List Definition). (d : Definition) × IsAgain l c.in-Some.i d) c.as_slice.ensures (subst (λ (r : Option ℕ). IfSome r (λ i. (d : Definition) × IsAgain c.as_slice.result.now i d)) c.in-Some.is c.in_ok-i.ensures.some) in
    twice_found c.args.tokens.now c.args.starts.now c.args.read.defs c.in-Some.i again.0 _ again.1 (c.requires.within c.in-Some.i again.1.0.0)
