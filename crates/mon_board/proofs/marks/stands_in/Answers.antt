use Rattle.std.proofs.Common.{sym, rules}
use Rattle.std.proofs.lemmas.Fn.{always_returns_same}
use Rattle.std.specs.Ordering.{nat_cmp}
use Rattle.mon_board.proofs.Stands.{stands, stands_not}
use Rattle.mon_board.proofs.marks.stands_in.Goals as goal

pub returns-in-Ok : goal.returns-in-Ok
returns-in-Ok c =
    let found = c.in-Ok.ensures.position (λ kept. nat_cmp kept c.args.sample.now) (always_returns_same _ _ _ (λ a r f called. search rules)) in
    sym (stands c.args.window.now.items c.args.sample.now c.items.result.now _ c.items.ensures.items c.in-Ok.ensures.bound found)

pub returns-in-Err : goal.returns-in-Err
returns-in-Err c =
    let found = c.in-Err.ensures.position (λ kept. nat_cmp kept c.args.sample.now) (always_returns_same _ _ _ (λ a r f called. search rules)) in
    sym (stands_not c.args.window.now.items c.args.sample.now c.items.result.now _ c.items.ensures.items c.in-Err.ensures.bound found)
