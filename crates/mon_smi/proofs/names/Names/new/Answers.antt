use Rattle.std.proofs.Common.{List, sym, subst, ◌∙◌}
use Rattle.mon_smi.specs.declared.definition.Definition.{Definition}
use Rattle.mon_smi.specs.Names.{AreDistinct}
use Rattle.mon_smi.specs.Places.{AreFound}
use Rattle.mon_smi.proofs.BuiltIn.{built_in_distinct}
use Rattle.mon_smi.proofs.names.Names.new.Goals as goal

pub add_places-requires-clause-distinct : goal.add_places-requires-clause-distinct
add_places-requires-clause-distinct c = subst AreDistinct (sym (c.as_slice.ensures.value ∙ c.in_ok-defs.ensures)) built_in_distinct

pub invariant_of-result : goal.invariant_of-result
invariant_of-result c = (subst AreDistinct (sym c.in_ok-defs.ensures) built_in_distinct, subst (λ (l : List Definition). AreFound c.add_places.new.places l) c.as_slice.ensures.value c.in_ok-add_places.ensures.found)
