use Rattle.std.proofs.Common.{sym, ap, ◌∙◌, arith}
use Rattle.std.specs.List.{insert}
use Rattle.mon_rates.specs.Totals.{totals, plus}
use Rattle.mon_rates.specs.declared.totals.Totals.{Totals}
use Rattle.mon_rates.proofs.Mending.{cancel, totals-bound}
use Rattle.mon_rates.proofs.track.with_one.Goals as goal

pub plus-requires-clause-delta : goal.plus-requires-clause-delta
plus-requires-clause-delta c =
    let part = totals-bound c.args.items.now 64 (let few = c.requires.few in omega arith) in
    omega (arith, part.delta, ap (λ (t : Totals). t.delta) c.requires.totals, c.change_at-change.ensures.halves.delta)

pub plus-requires-clause-span : goal.plus-requires-clause-span
plus-requires-clause-span c =
    let part = totals-bound c.args.items.now 64 (let few = c.requires.few in omega arith) in
    omega (arith, part.span, ap (λ (t : Totals). t.span) c.requires.totals, c.change_at-change.ensures.halves.span)

pub plus-requires-clause-pairs : goal.plus-requires-clause-pairs
plus-requires-clause-pairs c =
    let part = totals-bound c.args.items.now 64 (let few = c.requires.few in omega arith) in
    omega (arith, part.pairs, ap (λ (t : Totals). t.pairs) c.requires.totals, c.change_at-change.ensures.halves.pairs)

pub returns : goal.returns
returns c =
    let xs = c.args.items.now in
    let ys = insert xs c.args.place c.args.sample.now in
    let change = c.change_at-change.result in
    cancel c.minus.result (totals ys) change.whole
    (c.minus.ensures ∙ c.plus.ensures ∙ ap (λ t. plus t change.halves) c.requires.totals ∙ sym c.change_at-change.ensures.sums)
