use Rattle.std.proofs.Common.{◌≡◌, ◌<◌, ◌+◌, ◌-◌, length, get_or, sym, ap, ◌∙◌, arith}
use Rattle.std.proofs.lemmas.Bool.{eqb-true, eq-eqb, leb-true}
use Rattle.mon_sample.specs.Key.{boots_of}
use Rattle.mon_window.specs.Leaving.{part}
use Rattle.mon_window.proofs.ByBoots.{boots_rise, epoch_shown, epoch_hidden, epoch_stands}
use Rattle.mon_window.proofs.plan.fills_epoch.Goals as goal

pub returns-then-items-first : goal.returns-then-items-first
returns-then-items-first c =
    let xs = c.args.items.now in
    let last = c.index-items-first.result in
    let is : c.boots.result ≡ boots_of (get_or xs (c.args.first + (c.args.epoch - 1)) last) = c.boots.ensures.boots ∙ ap boots_of c.index-items-first.is in (
      (λ h. epoch_shown boots_of c.args.boots boots_rise xs c.requires.sorted c.args.first c.requires.bound c.requires.before c.requires.after c.args.epoch last c.requires.positive c.if-items-first.true (sym is ∙ eqb-true _ _ h)),
      (λ full. eq-eqb _ _ (is ∙ epoch_stands boots_of c.args.boots boots_rise xs c.requires.sorted c.args.first c.requires.bound c.requires.before c.requires.after c.args.epoch last c.requires.positive full)),
    )

pub returns-else-items-first : goal.returns-else-items-first
returns-else-items-first c =
    let xs = c.args.items.now in
    let few : length (part boots_of c.args.boots xs) < c.args.epoch =
    epoch_hidden boots_of c.args.boots boots_rise xs c.requires.sorted c.args.first c.requires.bound c.requires.before c.requires.after c.args.epoch 0 c.requires.positive (λ within _. let short = c.if-items-first.false in omega arith) in
    ((λ h. let short = c.if-items-first.false in let long = leb-true _ _ h in absurd (omega arith)), (λ full. absurd (omega arith)))
