use Rattle.std.proofs.Common.{◌≡◌, ap, length, rules, sym, ◌∙◌}
use Rattle.mon_alarms.specs.Announcing.{after_event}
use Rattle.mon_alarms.proofs.Noting.{below-length, beyond-length, noted-none, noted-push, noted-beyond}
use Rattle.mon_alarms.proofs.announcing.note.Goals.{then-change-len, else-change-len}
use Rattle.mon_alarms.proofs.announcing.note.Goals as goal

pub loop-change-init : goal.loop-change-init
loop-change-init c = sym (noted-none 0 c.args.rules.now.items)

pub loop-change-preserved : goal.loop-change-preserved
loop-change-preserved c =
    let held : c.len.result ≡ length c.loop-change.rules.items = search rules in
    elim c.if-change-len.branch [
      | then-change-len w ↦ ap (λ v. v.items) w.rules-is
          ∙ noted-push c.args.rules.now.items c.loop-change.rules.items c.args.changes.now c.loop-change.change-index _ _ w.after_event.result c.loop-change-test.true
          c.loop-change.invariant (below-length _ _ _ w.if-change-len.true held) (w.after_event.ensures ∙ ap (λ p. after_event p _) w.index-pending.ensures)
      | else-change-len w ↦ ap (λ v. v.items) w.rules-is
          ∙ noted-beyond c.args.rules.now.items c.loop-change.rules.items c.args.changes.now c.loop-change.change-index _ c.loop-change-test.true c.loop-change.invariant
          (beyond-length _ _ _ w.if-change-len.false held)
    ]
