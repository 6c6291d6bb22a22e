use Rattle.std.specs.Prelude.{not}
use Rattle.mon_survey.specs.Appended.{IsSameRule, is_on}
use Rattle.mon_survey.proofs.Steps.{nothing_new}
use Rattle.mon_survey.proofs.kept.+are_kept_rules.Goals as goal

pub returns-in_default : goal.returns-in_default
returns-in_default t c =
    nothing_new (IsSameRule c.args.watches.now.old.now c.args.watches.now.new.now) (λ r. not (is_on c.args.watches.now.engine.now c.args.watches.now.new.now r))
    c.args.old.now c.args.new.now c.is_empty.result c.in_default.len_below c.is_empty.ensures
