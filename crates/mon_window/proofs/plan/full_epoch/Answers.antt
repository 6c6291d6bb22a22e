use Rattle.std.proofs.Common.{◌≡◌, ◌≤◌, ◌-◌, length, get_or, refl, sym, ap, ◌∙◌, subst, arith}
use Rattle.std.specs.Cmp.{nat_cmp_total}
use Rattle.std.specs.FinSet.{nat_cmp-IsAntisymmetric}
use Rattle.std.proofs.lemmas.List.{get_or_default}
use Rattle.mon_sample.specs.Key.{boots_of}
use Rattle.mon_window.specs.Leaving.{part, IsLeaving}
use Rattle.mon_window.proofs.ByBoots.{boots_rise, first_leaves, epoch_before, no_epoch_before}
use Rattle.mon_window.proofs.plan.full_epoch.Goals as goal
use Rattle.mon_window.proofs.plan.full_epoch.Goals.{else-at-epoch-via-then-at-epoch+else-boots, else-at-epoch-via-else-at-epoch, then-at-items-via-then-at-items, then-at-items-via-else-at-items+then-boots-2}

pub returns-then-boots-clause-some : goal.returns-then-boots-clause-some
returns-then-boots-clause-some c =
    let xs = c.args.items.now in
    let x = c.args.sample.now in
    let found = c.index-items-at in
    let is : boots_of (get_or xs (c.args.at - c.args.epoch) found.result) ≡ boots_of x = ap boots_of (sym found.is) ∙ sym c.boots.ensures.boots ∙ c.if-boots.true ∙ c.boots-boots.ensures.boots in
    epoch_before nat_cmp_total nat_cmp-IsAntisymmetric boots_of boots_rise x xs c.args.at c.requires.sorted c.requires.place c.args.size c.args.epoch c.requires.positive c.requires.fits found.result c.if-at-epoch.true is

pub returns-then-at-items-clause-none : goal.returns-then-at-items-clause-none
returns-then-at-items-clause-none c =
    let xs = c.args.items.now in
    let x = c.args.sample.now in
    let mine = c.boots-boots.ensures.boots in
    no_epoch_before nat_cmp_total nat_cmp-IsAntisymmetric boots_of boots_rise x xs c.args.at c.requires.sorted c.requires.place c.args.size c.args.epoch c.requires.positive c.requires.fits x
    (λ enough is. elim c.else-at-epoch.branch [
      | else-at-epoch-via-then-at-epoch+else-boots w ↦
          let within = c.requires.place.within in
          let some = c.requires.positive in
          absurd (w.if-boots.false (w.boots.ensures.boots ∙ ap boots_of (w.index-items-at.is ∙ get_or_default xs (c.args.at - c.args.epoch) w.index-items-at.result x (omega arith)) ∙ is ∙ sym mine))
      | else-at-epoch-via-else-at-epoch w ↦ let short = w.if-at-epoch.false in absurd (omega arith)
    ])
    (λ within is. elim c.then-at-items.branch [
      | then-at-items-via-then-at-items w ↦ let end = w.if-at-items.true in absurd (omega arith)
      | then-at-items-via-else-at-items+then-boots-2 w ↦
          absurd (w.if-boots-2.true (w.boots-else-at-items.ensures.boots ∙ ap boots_of (w.index-items-at-else-at-items.is ∙ get_or_default xs c.args.at w.index-items-at-else-at-items.result x within) ∙ is ∙ sym mine))
    ])

pub returns-then-fills_epoch-clause-some : goal.returns-then-fills_epoch-clause-some
returns-then-fills_epoch-clause-some c =
    let xs = c.args.items.now in
    let x = c.args.sample.now in
    let is = c.boots-boots.ensures.boots in
    let found = c.first_of-first in
    let full : c.args.epoch ≤ length (part boots_of c.boots-boots.result xs) = c.if-fills_epoch.ensures.0 refl in
    subst (λ e. IsLeaving boots_of c.args.size c.args.epoch e xs c.args.at found.result) is
    (first_leaves boots_of c.boots-boots.result boots_rise xs c.requires.sorted found.result found.ensures.bound found.ensures.before found.ensures.after
    nat_cmp_total nat_cmp-IsAntisymmetric c.args.size c.args.epoch x c.args.at c.requires.place (sym is) c.requires.positive full)
