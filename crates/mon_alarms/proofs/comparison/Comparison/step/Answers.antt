use Rattle.std.proofs.Common.{◌≡◌, ◌∷◌, ◌++◌, ◌&&◌, ℕ, Bool, [], None, ap, map, not, subst, sym, ◌∙◌}
use Rattle.std.specs.Prelude.{if◌then◌else◌, option_to_list}
use Rattle.std.specs.Bool.{beq}
use Rattle.std.specs.List.{last_or}
use Rattle.mon_alarms.specs.Changes.{event_at, event_between, events_of, is_new, is_raised, known_of, new_of, raised_over, samples_of}
use Rattle.mon_alarms.specs.Comparison.{IsTrail}
use Rattle.mon_alarms.proofs.Stepping.{events-push, new-push, samples-push}
use Rattle.mon_alarms.proofs.comparison.Comparison.step.Goals as goal

pub returns-clause-event : goal.returns-clause-event
returns-clause-event c = λ seen w.
    let rule = c.args.rule.now in
    let s : ℕ × Bool = (c.args.sample.now, c.args.is_known) in
    let known_before : c.is_raised.result ≡ raised_over rule (known_of seen) = c.is_raised.ensures ∙ ap is_raised w.known.state in
    let all_before : c.is_raised-2.result ≡ raised_over rule (samples_of seen) = c.is_raised-2.ensures ∙ ap is_raised w.all.state in
    let all : IsTrail rule (samples_of (seen ++ s ∷ [])) c.step.new.self =
    subst (λ xs. IsTrail rule xs c.step.new.self) (sym (samples-push seen s)) (c.step.ensures (samples_of seen) w.all) in
    let known = c.step_known.ensures.known seen w.known in
    let known_after : c.is_raised-3.result ≡ raised_over rule (known_of (seen ++ s ∷ [])) = c.is_raised-3.ensures ∙ ap is_raised known.state in
    let all_after : c.is_raised-4.result ≡ raised_over rule (samples_of (seen ++ s ∷ [])) =
    c.is_raised-4.ensures ∙ ap (λ t. is_raised t.state) c.step_known.ensures.all ∙ ap is_raised all.state in
    let new : c.is_new-is_new.result ≡ is_new rule seen s =
    c.is_new-is_new.ensures ∙ (λ i. not (c.args.is_known && (beq (known_before i) (all_before i) && beq (known_after i) (all_after i)))) in
    let event : c.event_between-event.result ≡ event_at rule seen s = c.event_between-event.ensures ∙ (λ i. event_between (all_before i) (all_after i) c.args.sample.now) in
    c.only_if-new.ensures ∙ (λ i. if new i then event i else None)

pub returns-clause-comparison : goal.returns-clause-comparison
returns-clause-comparison c = λ seen w.
    let rule = c.args.rule.now in
    let s : ℕ × Bool = (c.args.sample.now, c.args.is_known) in
    let known_before : c.is_raised.result ≡ raised_over rule (known_of seen) = c.is_raised.ensures ∙ ap is_raised w.known.state in
    let all_before : c.is_raised-2.result ≡ raised_over rule (samples_of seen) = c.is_raised-2.ensures ∙ ap is_raised w.all.state in
    let all : IsTrail rule (samples_of (seen ++ s ∷ [])) c.step.new.self =
    subst (λ xs. IsTrail rule xs c.step.new.self) (sym (samples-push seen s)) (c.step.ensures (samples_of seen) w.all) in
    let known = c.step_known.ensures.known seen w.known in
    let known_after : c.is_raised-3.result ≡ raised_over rule (known_of (seen ++ s ∷ [])) = c.is_raised-3.ensures ∙ ap is_raised known.state in
    let all_after : c.is_raised-4.result ≡ raised_over rule (samples_of (seen ++ s ∷ [])) =
    c.is_raised-4.ensures ∙ ap (λ t. is_raised t.state) c.step_known.ensures.all ∙ ap is_raised all.state in
    let new : c.is_new-is_new.result ≡ is_new rule seen s =
    c.is_new-is_new.ensures ∙ (λ i. not (c.args.is_known && (beq (known_before i) (all_before i) && beq (known_after i) (all_after i)))) in
    let event : c.event_between-event.result ≡ event_at rule seen s = c.event_between-event.ensures ∙ (λ i. event_between (all_before i) (all_after i) c.args.sample.now) in
    record {
      all = subst (IsTrail rule (samples_of (seen ++ s ∷ []))) (sym c.step_known.ensures.all) all;
      known = known;
      last = c.later-self.ensures (events_of rule seen) (c.step_known.ensures.last ∙ w.last)
          ∙ (λ i. last_or None (events_of rule seen ++ map (λ e. (e, new i)) (option_to_list (event i))))
          ∙ ap (last_or None) (sym (events-push rule seen s));
      new = c.later_new-self.ensures (new_of (events_of rule seen)) (c.step_known.ensures.last_new ∙ w.new)
          ∙ ap (λ o. last_or None (new_of (events_of rule seen) ++ option_to_list o)) (returns-clause-event c seen w)
          ∙ ap (last_or None) (sym (new-push rule seen s));
    }
