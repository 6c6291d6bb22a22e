use Rattle.std.proofs.Common.{sym, ◌∙◌}
use Rattle.mon_rehearsal.proofs.Cuts.{cut_none, cut_some}
use Rattle.mon_rehearsal.proofs.field.cut.Goals as goal

pub returns-in-Some : goal.returns-in-Some
returns-in-Some c = sym (cut_some c.args.mark c.args.text.now c.in-Some.place (sym c.place_of.ensures ∙ c.in-Some.is))

pub returns-in-None : goal.returns-in-None
returns-in-None c = sym (cut_none c.args.mark c.args.text.now (sym c.place_of.ensures ∙ c.in-None.is))
