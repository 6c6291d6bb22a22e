use Rattle.std.proofs.Common.{ap, ◌∙◌}
use Rattle.std.specs.FinSet as set
use Rattle.std.specs.Cmp.{nat_cmp_total}
use Rattle.std.specs.FinSet.{nat_cmp-IsAntisymmetric}
use Rattle.mon_sample.specs.Key.{boots_of}
use Rattle.mon_window.specs.Keep.{keep}
use Rattle.mon_window.specs.Window.{Samples, Window}
use Rattle.mon_window.proofs.Promised.{keep-top}
use Rattle.mon_app.proofs.table.first_row.Goals as goal

pub returns-clause-window : goal.returns-clause-window
returns-clause-window c =
    let n = c.args.size in
    let x = c.args.sample in
    let whole : Samples → Window = λ s. record { size = n; epoch = n; items = s } in
    c.insert.ensures.sizes ∙ ap (λ (s : Samples). record { size = c.in_ok-window.window.size; epoch = c.in_ok-window.window.epoch; items = s }) c.insert.ensures.inserted.items
    ∙ ap (λ (w : Window). record { size = w.size; epoch = w.epoch; items = keep boots_of w.size w.epoch (set.insert w.items x) }) c.in_ok-window.ensures
    ∙ ap whole (keep-top nat_cmp_total nat_cmp-IsAntisymmetric boots_of n (set.insert set.empty x))
