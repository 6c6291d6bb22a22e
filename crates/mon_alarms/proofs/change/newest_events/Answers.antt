use Rattle.std.proofs.Common.{◌≡◌, ◌++◌, ◌∷◌, [], None, option_to_list, sym, ap, ◌∙◌}
use Rattle.std.specs.List.{last_or}
use Rattle.mon_rates.proofs.Promised.{last_place}
use Rattle.mon_alarms.specs.Changes.{event_between, is_raised, put_right}
use Rattle.mon_alarms.specs.Comparison.{after_sample}
use Rattle.mon_alarms.specs.Observed.{observed, state_by}
use Rattle.mon_alarms.proofs.Moved.{reported_moved}
use Rattle.mon_alarms.proofs.Stepping.{state-push}
use Rattle.mon_alarms.proofs.change.newest_events.Goals as goal

pub returns : goal.returns
returns c =
    let rule = c.args.rule.now in
    let was = c.args.was.now in
    let y = c.args.newest.now in
    let level : c.observe.result ≡ observed (last_or None was) y = c.observe.ensures ∙ ap (λ o. observed o y) (c.last.ensures.value ∙ sym (last_place was)) in
    let after : c.after_sample-after.result ≡ state_by rule (was ++ y ∷ []) =
    c.after_sample-after.ensures ∙ (λ i. after_sample rule (level i) y (c.state-before.ensures i)) ∙ sym (state-push rule was y c.falling.ensures.order) in
    let event = c.event_between-event.ensures ∙ (λ i. event_between ((c.is_raised.ensures ∙ ap is_raised c.state-before.ensures) i) ((c.is_raised-2.ensures ∙ ap is_raised after) i) y) in
    let right = c.put_right-right.ensures ∙ (λ i. put_right ((c.is_raised-3.ensures ∙ ap is_raised after) i) (c.state.ensures i)) in
    reported_moved rule was c.args.is.now y c.requires.both ∙ sym (λ i. option_to_list (event i) ++ option_to_list (right i))
