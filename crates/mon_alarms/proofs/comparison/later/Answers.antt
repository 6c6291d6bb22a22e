use Rattle.std.proofs.Common.{◌++◌, None, ap, map, sym, ◌∙◌}
use Rattle.std.specs.Prelude.{option_to_list}
use Rattle.std.specs.List.{last_or}
use Rattle.mon_alarms.proofs.Stepping.{last-push}
use Rattle.mon_alarms.proofs.comparison.later.Goals as goal

pub returns-in-Some : goal.returns-in-Some
returns-in-Some c = λ events h.
    sym
    (ap (λ o. last_or None (events ++ map (λ e. (e, c.args.is_new)) (option_to_list o))) c.in-Some.is ∙ last-push None events (c.in-Some.event, c.args.is_new))
