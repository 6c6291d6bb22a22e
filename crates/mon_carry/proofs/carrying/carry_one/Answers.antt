use Rattle.std.proofs.Common.{◌∙◌, ℕ, Option, ap, sym}
use Rattle.mon_board.specs.Board.{window_of}
use Rattle.mon_board.specs.Windows.{kept_by}
use Rattle.mon_carry.specs.Carried.{window_there}
use Rattle.mon_carry.proofs.Turns.{listed, put_other, put_own, stays_unmarked}
use Rattle.mon_carry.proofs.carrying.carry_one.Goals as goal

pub returns-in-Some-clause-carried : goal.returns-in-Some-clause-carried
returns-in-Some-clause-carried c =
    let watch = c.args.board.now.watch in
    let old = c.args.old.now in
    c.take_all.ensures.windows c.args.place
    ∙ put_own watch (window_of c.args.board.now) c.args.place (window_of old c.in-Some.from) c.items.result.now
    (listed (window_of old c.in-Some.from) c.items.result.now c.items.ensures.items) c.requires.empty
    ∙ ap (λ (from : Option ℕ). kept_by watch c.args.place (window_there old from)) (sym c.in-Some.is ∙ c.source_at.ensures.source)

pub returns-in-Some-clause-others : goal.returns-in-Some-clause-others
returns-in-Some-clause-others c = λ i ne.
    let watch = c.args.board.now.watch in
    let windows = window_of c.args.board.now in
    c.take_all.ensures.windows i
    ∙ put_other watch windows c.args.place i c.items.result.now (c.taken_in_turn.ensures.none watch windows i (c.watch.ensures.whole i)) (λ same. ne (sym same))

pub returns-in-Some-clause-unmarked : goal.returns-in-Some-clause-unmarked
returns-in-Some-clause-unmarked c = λ none. stays_unmarked c.args.board.now c.take_all.new.self c.take_all.ensures.marks none
