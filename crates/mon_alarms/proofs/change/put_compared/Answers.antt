use Rattle.std.proofs.Common.{◌≡◌, ◌∷◌, ◌++◌, ℕ, Bool, [], ap, append_assoc, append-nil, refl, sym, ◌∙◌}
use Rattle.std.specs.Prelude.{option_to_list}
use Rattle.mon_alarms.specs.Changes.{events_of, is_raised, last_again, merged, new_of, put_right, raised_after}
use Rattle.mon_alarms.proofs.Stepping.{all_reported, reported_more}
use Rattle.mon_alarms.proofs.change.put_compared.Goals as goal

pub loop-next-init : goal.loop-next-init
loop-next-init c = ([], refl, c.new-comparison.ensures c.args.rule.now, sym (append-nil c.args.changes.now.items))

pub loop-next-preserved : goal.loop-next-preserved
loop-next-preserved c =
    let so_far = c.loop-next.invariant in
    let seen = so_far.0 in
    let next = c.in-Some.next in
    let s : ℕ × Bool = (next.sample, next.is_known) in (
      seen ++ s ∷ [],
      so_far.1 ∙ ap (λ l. seen ++ l) c.in-Some.ensures.next ∙ sym (append_assoc seen (s ∷ []) (merged next.was.now next.is.now)),
      c.step-event.ensures.comparison seen so_far.2,
      reported_more c.args.rule.now seen s c.args.number _ _ _ _ so_far.3 (c.step-event.ensures.event seen so_far.2) c.in_ok-put_event.ensures,
    )

pub returns : goal.returns
returns c =
    let so_far = c.loop-next.invariant in
    let seen = so_far.0 in
    let rule = c.args.rule.now in
    let new = new_of (events_of rule seen) in
    let last = c.last_again-last.result in
    let of_both : merged c.args.was.now c.args.is.now ≡ seen = so_far.1 ∙ ap (λ l. seen ++ l) c.in_default.ensures.end ∙ append-nil seen in
    let is_last = c.last_again-last.ensures ∙ (λ i. last_again (so_far.2.new i) (so_far.2.last i)) in
    let is_right = c.put_right-right.ensures new so_far.2.new ∙ (λ i. put_right (raised_after (is_raised (c.state.ensures i)) (new ++ option_to_list last)) (c.state-2.ensures i)) in
    all_reported rule c.args.was.now c.args.is.now c.args.number seen _ _ _ _ last _ of_both so_far.3 is_last c.in_ok-put_event-2.ensures is_right c.in_ok-put_event-3.ensures
