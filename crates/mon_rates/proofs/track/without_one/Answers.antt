use Rattle.std.proofs.Common.{◌≡◌, ap, ◌∙◌, arith}
use Rattle.mon_rates.specs.Totals.{totals, plus}
use Rattle.mon_rates.specs.declared.totals.Totals.{Totals}
use Rattle.mon_rates.proofs.Mending.{cancel, totals-inserted}
use Rattle.mon_rates.proofs.track.without_one.Goals as goal

pub plus-requires-clause-delta : goal.plus-requires-clause-delta
plus-requires-clause-delta c =
    let part = totals-inserted c.args.items.now c.args.place c.args.sample.now c.args.totals c.requires.place c.requires.few c.requires.totals in
    omega (arith, part.delta, c.change_at-change.ensures.whole.delta)

pub plus-requires-clause-span : goal.plus-requires-clause-span
plus-requires-clause-span c =
    let part = totals-inserted c.args.items.now c.args.place c.args.sample.now c.args.totals c.requires.place c.requires.few c.requires.totals in
    omega (arith, part.span, c.change_at-change.ensures.whole.span)

pub plus-requires-clause-pairs : goal.plus-requires-clause-pairs
plus-requires-clause-pairs c =
    let part = totals-inserted c.args.items.now c.args.place c.args.sample.now c.args.totals c.requires.place c.requires.few c.requires.totals in
    omega (arith, part.pairs, c.change_at-change.ensures.whole.pairs)

pub minus-requires-clause-delta : goal.minus-requires-clause-delta
minus-requires-clause-delta c =
    let is : c.plus.result ≡ plus (totals c.args.items.now) c.change_at-change.result.halves = c.plus.ensures ∙ ap (λ t. plus t c.change_at-change.result.whole) c.requires.totals ∙ c.change_at-change.ensures.sums in
    omega (arith, ap (λ (t : Totals). t.delta) is)

pub minus-requires-clause-span : goal.minus-requires-clause-span
minus-requires-clause-span c =
    let is : c.plus.result ≡ plus (totals c.args.items.now) c.change_at-change.result.halves = c.plus.ensures ∙ ap (λ t. plus t c.change_at-change.result.whole) c.requires.totals ∙ c.change_at-change.ensures.sums in
    omega (arith, ap (λ (t : Totals). t.span) is)

pub minus-requires-clause-pairs : goal.minus-requires-clause-pairs
minus-requires-clause-pairs c =
    let is : c.plus.result ≡ plus (totals c.args.items.now) c.change_at-change.result.halves = c.plus.ensures ∙ ap (λ t. plus t c.change_at-change.result.whole) c.requires.totals ∙ c.change_at-change.ensures.sums in
    omega (arith, ap (λ (t : Totals). t.pairs) is)

pub returns : goal.returns
returns c =
    let change = c.change_at-change.result in
    cancel c.minus.result (totals c.args.items.now) change.halves
    (c.minus.ensures ∙ c.plus.ensures ∙ ap (λ t. plus t change.whole) c.requires.totals ∙ c.change_at-change.ensures.sums)
