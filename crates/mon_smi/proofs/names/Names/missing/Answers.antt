use Rattle.std.proofs.Common.{◌∙◌}
use Rattle.mon_smi.proofs.Missing.{missing_for, none_missing}
use Rattle.mon_smi.proofs.names.Names.missing.Goals as goal

pub returns-clause-some : goal.returns-clause-some
returns-clause-some c =
    missing_for c.undefined_end.result c.as_slice.result.now c.args.self.now c.args.text.now c.name_in.result.now (c.as_slice.ensures.value ∙ c.self.view_is) c.name_in.ensures c.undefined_end.ensures.some

pub returns-clause-none : goal.returns-clause-none
returns-clause-none c =
    none_missing c.undefined_end.result c.as_slice.result.now c.args.self.now c.args.text.now c.name_in.result.now (c.as_slice.ensures.value ∙ c.self.view_is) c.name_in.ensures c.undefined_end.ensures.none
