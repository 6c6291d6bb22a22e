use Rattle.std.proofs.Common.{◌≡◌, ap, sym, ◌∙◌, None}
use Rattle.std.specs.List.{last_or}
use Rattle.mon_alarms.specs.Observed.{observed}
use Rattle.mon_alarms.specs.Comparison.{after_sample}
use Rattle.mon_alarms.proofs.Stepping.{state-push, last-push}
use Rattle.mon_alarms.proofs.comparison.Trail.step.Goals as goal

pub returns : goal.returns
returns c = λ xs t.
    let rule = c.args.rule.now in
    let x = c.args.sample.now in
    let level : c.observe-level.result ≡ observed (last_or None xs) x = c.observe-level.ensures ∙ ap (λ o. observed o x) (c.as_ref.ensures.value ∙ t.newest) in
    record {
      state = c.after_sample-self.ensures ∙ ap (λ o. after_sample rule o x c.args.self.now.state) level ∙ ap (after_sample rule (observed (last_or None xs) x) x) t.state ∙ sym (state-push rule xs x c.falling.ensures.order);
      newest = sym (last-push None xs x);
    }
