use Rattle.std.proofs.Common.{List, sym, subst, ◌∙◌}
use Rattle.mon_smi.specs.declared.definition.Definition.{Definition}
use Rattle.mon_smi.specs.Names.{AreDistinct, MeansNumbers}
use Rattle.mon_smi.proofs.Exact.{accepted}
use Rattle.mon_smi.proofs.names.Names.resolve.Goals as goal

pub returns-clause-accepted : goal.returns-clause-accepted
returns-clause-accepted c = λ q means is.
    accepted c.one_reading.ensures c.resolve_in.result c.as_slice.result.now c.args.text.now (subst AreDistinct (sym c.as_slice.ensures.value) c.self.invariant.0) c.resolve_in.ensures.fault q
    (subst (λ (defs : List Definition). MeansNumbers defs c.args.text.now q) (sym (c.as_slice.ensures.value ∙ c.self.view_is)) means) is
