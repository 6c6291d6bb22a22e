use Rattle.std.proofs.Common.{◌≡◌, ◌<◌, length, subst, ◌∙◌, ap, arith, Ok, Err}
use Rattle.mon_window.specs.Window.{Samples}
use Rattle.mon_app.specs.Find.{StandsAt, instances_of}
use Rattle.mon_board.specs.Instance.{named}
use Rattle.mon_app.specs.Offer.{Offer}
use Rattle.mon_app.proofs.Windows.{sorted_rows, took_known, took_new}
use Rattle.mon_app.proofs.table.Table.take_sample.Goals as goal

pub returns-in-Ok-clause-rows : goal.returns-in-Ok-clause-rows
returns-in-Ok-clause-rows c = λ taken is.
    let n = c.args.self.now.size in
    let rows = c.args.self.now.rows.items in
    let i = named c.args.engine.now c.args.name.now in
    let x : Offer = record { instance = i; sample = c.args.sample } in
    let seen : c.as_slice.result.now ≡ rows = c.as_slice.ensures.value in
    let lt : c.in-Ok.at < length rows = omega (arith, c.in-Ok.ensures.within, ap length seen) in
    let found : StandsAt (instances_of c.as_slice.result.now) i (Ok c.in-Ok.at) = c.in-Ok.ensures.found (sorted_rows n taken c.as_slice.result.now (seen ∙ is)) in
    took_known n taken rows is x c.in-Ok.at c.index_mut-row.result.now c.insert.new.self lt
    (subst (λ rs. StandsAt (instances_of rs) i (Ok c.in-Ok.at)) seen found) c.index_mut-row.ensures.value
    (c.insert.ensures.sizes ∙ ap (λ (s : Samples). record { size = c.index_mut-row.result.now.window.size; epoch = c.index_mut-row.result.now.window.epoch; items = s }) c.insert.ensures.inserted.items)

pub returns-in_ok-insert-in-Err-clause-rows : goal.returns-in_ok-insert-in-Err-clause-rows
returns-in_ok-insert-in-Err-clause-rows c = λ taken is.
    let n = c.args.self.now.size in
    let rows = c.args.self.now.rows.items in
    let i = named c.args.engine.now c.args.name.now in
    let x : Offer = record { instance = i; sample = c.args.sample } in
    let seen : c.as_slice.result.now ≡ rows = c.as_slice.ensures.value in
    let place : StandsAt (instances_of c.as_slice.result.now) i (Err c.in-Err.at) = c.in-Err.ensures.found (sorted_rows n taken c.as_slice.result.now (seen ∙ is)) in
    c.in_ok-insert-in-Err.ensures.items
    ∙ took_new n taken rows is x c.in-Err.at c.in_ok-row-in-Err.row
    (subst (λ rs. StandsAt (instances_of rs) i (Err c.in-Err.at)) seen place) c.in_ok-row-in-Err.ensures.instance c.in_ok-row-in-Err.ensures.window
