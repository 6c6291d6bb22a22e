use Rattle.std.proofs.Common.{◌∙◌, ◌++◌, ap, sym, ℕ, List, [], codes, append-nil}
use Rattle.std.proofs.lemmas.Result.{on_ok_weaker}
use Rattle.mon_page.specs.Between.{between}
use Rattle.mon_page.proofs.Dates.{beyond, round_is}
use Rattle.mon_page.proofs.head.put_date.Goals as goal

pub returns-in-Ok : goal.returns-in-Ok
returns-in-Ok c =
    let start = c.args.text.now.items in
    on_ok_weaker c.put_between.result
    (λ put. put
    ∙ ap (λ (t : List ℕ). start ++ between (codes ", last round ") t []) c.to_bytes.ensures
    ∙ ap (λ (t : List ℕ). start ++ t) (round_is c.in-Ok.date c.args.seconds c.in-Ok.ensures.value))
    c.put_between.ensures

pub returns-in-Err : goal.returns-in-Err
returns-in-Err c =
    let start = c.args.text.now.items in
    sym (append-nil start) ∙ ap (λ (t : List ℕ). start ++ t) (sym (beyond c.from_unix_secs.result _ c.args.seconds c.in-Err.is c.from_unix_secs.ensures.succeeds.1))
