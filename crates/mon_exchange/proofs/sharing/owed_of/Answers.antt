use Rattle.std.proofs.Common.{ℕ, List, None, Some, sym, subst}
use Rattle.mon_window.specs.Top.{rising}
use Rattle.mon_board.specs.Board.{is_marked, window_of}
use Rattle.mon_board.specs.Owed.{owed_in}
use Rattle.mon_exchange.proofs.Above.{IsAt, at_start, at_next}
use Rattle.mon_exchange.proofs.sharing.owed_of.Goals as goal

pub loop-owed-init : goal.loop-owed-init
loop-owed-init c =
    let owed = rising (owed_in (window_of c.args.board.now) (is_marked c.args.board.now c.args.slot) c.args.instance) in
    subst (λ (l : List ℕ). IsAt owed l None) (sym c.new-owed.ensures.items) (at_start owed)

pub loop-owed-preserved : goal.loop-owed-preserved
loop-owed-preserved c =
    let owed = rising (owed_in (window_of c.args.board.now) (is_marked c.args.board.now c.args.slot) c.args.instance) in
    let s = c.in-Some.sample in
    subst (λ (l : List ℕ). IsAt owed l (Some s)) (sym c.in_ok-push.ensures.items)
    (at_next owed c.loop-owed.owed.items c.loop-owed.after s (c.rising_list.ensures.order _) c.loop-owed.invariant (sym c.in-Some.ensures))
