use Rattle.std.proofs.Common.{◌++◌, None, ap, sym, ◌∙◌}
use Rattle.std.specs.Prelude.{option_to_list}
use Rattle.std.specs.List.{last_or}
use Rattle.mon_alarms.proofs.Stepping.{last-push}
use Rattle.mon_alarms.proofs.comparison.later_new.Goals as goal

pub returns-in-Some : goal.returns-in-Some
returns-in-Some c = λ events h. sym (ap (λ o. last_or None (events ++ option_to_list o)) c.in-Some.is ∙ last-push None events c.in-Some.event)
